-- Texts that are opened by their names.
use Rattle.std.proofs.Common.{◌≡◌, ◌⊎◌, ◌+◌, ◌-◌, ◌<◌, ◌≤◌, ◌∙◌, ℕ, zero, suc, List, [], ◌∷◌, ◌++◌, map, take, length, true, Option, Bor, ap, ap₂, arith, inl, inr, refl, subst, sym}
use Rattle.std.specs.Prelude.{slice_index_or}
use Rattle.std.proofs.lemmas.Bool.{false≢true}
use Rattle.std.proofs.lemmas.List.{get_or-map, length-map, map-append, take_all, take_more}
use Rattle.rj_shards.specs.declared.merge.copies.Copies.{Copies}
use Rattle.rj_shards.specs.declared.merge.copies.MergeInput.{MergeInput}
use Rattle.rj_csv_io.specs.declared.retrying.RetryingReader.{RetryingReader}
use Rattle.rj_shards.specs.declared.merge.refused.MergeRefused.{MergeRefused}
use Rattle.rj_shards.specs.declared.merge.refused.MergeRefused.TheVariants as refused
use Rattle.rj_shards.specs.Inputs.{TellTexts, copies_of, is_input}
use Rattle.rj_shards.specs.Named.{AreOpened, IsOpenFault, IsShut, OpenTexts, OpensNothing}
use Rattle.rj_csv_io.specs.Devices.{reader_retried}
use Rattle.rj_shards.specs.Sources.{TellsAmong, is_outside}
use Rattle.rj_shards.proofs.ToldFacts.{input_within}

abbrev texts_of : List (Bor (List ℕ)) → List (List ℕ)
texts_of names = map (λ n. n.now) names

module _ {R : Type 0} where
  opened_more : (opens : List ℕ → R → Type 0) (names : List (List ℕ)) (inputs : List (MergeInput (RetryingReader R))) (name : List ℕ) (i : MergeInput (RetryingReader R))
      → AreOpened opens names inputs → opens name (reader_retried i.reader) → AreOpened opens (names ++ name ∷ []) (inputs ++ i ∷ [])
  opened_more opens [] [] name i all one = (one, tt)
  opened_more opens [] (j ∷ inputs) name i all one = absurd all
  opened_more opens (n ∷ names) [] name i all one = absurd all
  opened_more opens (n ∷ names) (j ∷ inputs) name i all one = (all.0, opened_more opens names inputs name i all.1 one)

  -- one name more is opened
  pub opened_step : (opens : List ℕ → R → Type 0) (names : List (Bor (List ℕ))) (at : ℕ) (d : Bor (List ℕ)) (inputs : List (MergeInput (RetryingReader R))) (i : MergeInput (RetryingReader R)) (r : R) → at < length names
      → AreOpened opens (texts_of (take at names)) inputs → reader_retried i.reader ≡ r → opens (slice_index_or names at d).now r → AreOpened opens (texts_of (take (at + 1) names)) (inputs ++ i ∷ [])
  opened_step opens names at d inputs i r h all same one =
      subst (λ l. AreOpened opens l (inputs ++ i ∷ [])) (sym (ap texts_of (take_more names at d h) ∙ map-append (λ (n : Bor (List ℕ)). n.now) (take at names) (slice_index_or names at d ∷ [])))
      (opened_more opens (texts_of (take at names)) inputs (slice_index_or names at d).now i all (subst (opens (slice_index_or names at d).now) (sym same) one))

  pub copies_step : (copies : List Copies) (at : ℕ) (d : Copies) (inputs : List (MergeInput (RetryingReader R))) (i : MergeInput (RetryingReader R)) → at < length copies → copies_of inputs ≡ take at copies
      → i.copies ≡ slice_index_or copies at d → copies_of (inputs ++ i ∷ []) ≡ take (at + 1) copies
  copies_step copies at d inputs i h all one =
      map-append (λ (j : MergeInput (RetryingReader R)). j.copies) inputs (i ∷ []) ∙ (ap₂ (λ (l : List Copies) (c : Copies). l ++ c ∷ []) all one ∙ sym (take_more copies at d h))

  -- what was opened tells the texts that its names open
  pub opened_tell : (opens : List ℕ → R → Type 0) (known : R → Option (List ℕ)) (names texts : List (List ℕ)) (inputs : List (MergeInput (RetryingReader R)))
      → AreOpened opens names inputs → OpenTexts opens known names texts → TellTexts (λ p. known (reader_retried p)) inputs texts
  opened_tell opens known [] [] [] all told = refl
  opened_tell opens known [] (text ∷ texts) inputs all told = absurd told
  opened_tell opens known [] [] (j ∷ inputs) all told = absurd all
  opened_tell opens known (n ∷ names) [] inputs all told = absurd told
  opened_tell opens known (n ∷ names) (text ∷ texts) [] all told = absurd all
  opened_tell opens known (n ∷ names) (text ∷ texts) (j ∷ inputs) all told =
      ap₂ (λ (t : Option (List ℕ)) (ts : List (Option (List ℕ))). t ∷ ts) (told.0 (reader_retried j.reader) all.0) (opened_tell opens known names texts inputs all.1 told.1)

  -- a name that opens nothing is behind those that were opened
  pub opened_before : (opens : List ℕ → R → Type 0) (names : List (List ℕ)) (count number : ℕ) (inputs : List (MergeInput (RetryingReader R)))
      → AreOpened opens (take count names) inputs → OpensNothing opens names number → count < number
  opened_before opens [] count number inputs all none = absurd (let low = none.first in let high = none.last in omega (arith, low, high))
  opened_before opens (name ∷ names) zero number inputs all none = let low = none.first in omega (arith, low)
  opened_before opens (name ∷ names) (suc count) number [] all none = absurd all
  opened_before opens (name ∷ names) (suc count) number (i ∷ inputs) all none = by_number (λ k w. opened_before opens names count k inputs all.1 w) number none
    where
      by_number : ((k : ℕ) → OpensNothing opens names k → count < k) → (k : ℕ) → OpensNothing opens (name ∷ names) k → suc count < k
      by_number later zero w = absurd (let low = w.first in omega (arith, low))
      by_number later (suc zero) w = absurd (w.none (reader_retried i.reader) all.0)
      by_number later (suc (suc k)) w =
          let above : suc (suc k) - 1 ≡ suc k = omega arith in
          let below : suc k - 1 ≡ k = omega arith in
          let behind = later (suc k) (record {
            first = omega arith;
            last = (let high = w.last in omega (arith, high));
            none = λ r opened. w.none r (subst (λ n. opens (slice_index_or (name ∷ names) n []) r) (sym above) (subst (λ n. opens (slice_index_or names n []) r) below opened));
          }) in
          omega (arith, behind)

  pub opens_each : (opens : List ℕ → R → Type 0) (names : List (List ℕ)) (inputs : List (MergeInput (RetryingReader R))) (number : ℕ)
      → AreOpened opens names inputs → OpensNothing opens names number → ⊥
  opens_each opens names inputs number all none =
      let behind = opened_before opens names (length names) number inputs (subst (λ l. AreOpened opens l inputs) (sym (take_all (length names) names (omega arith))) all) none in
      let high = none.last in
      omega (arith, behind, high)

-- an error of opening a name is one of each later name that opens nothing
pub unopened_here : (shut : List ℕ → Type 0) (names : List (List ℕ)) (number : ℕ) (e : MergeRefused) → (e ≡ refused.Memory) ⊎ (e ≡ refused.ReadDevice number) → ((i : ℕ) → e ≡ refused.ReadDevice i → IsShut shut names i)
    → (last : ℕ) → number ≤ last → IsOpenFault shut names last e
unopened_here shut names number e (inl memory) is last low = subst (IsOpenFault shut names last) (sym memory) tt
unopened_here shut names number e (inr device) is last low = subst (IsOpenFault shut names last) (sym device) (low, is number device)

-- a text that can't be opened is told by the number of its name
pub shut_here : (shut : List ℕ → Type 0) (names : List (Bor (List ℕ))) (at number : ℕ) (d : Bor (List ℕ)) (e : MergeRefused) → at < length names → number ≡ at → shut (slice_index_or names at d).now
    → (e ≡ refused.Memory) ⊎ (e ≡ refused.ReadDevice (number + 1)) → (i : ℕ) → e ≡ refused.ReadDevice i → IsShut shut (texts_of names) i
shut_here shut names at number d e h same is (inl memory) i told = absurd (cc)
shut_here shut names at number d e h same is (inr device) i told =
    let one : i ≡ number + 1 = cc in
    let back : (at + 1) - 1 ≡ at = omega arith in
    let there = get_or-map (λ (n : Bor (List ℕ)). n.now) names at d [] h in
    let size = length-map names (λ (n : Bor (List ℕ)). n.now) in
    subst (IsShut shut (texts_of names)) (sym (one ∙ ap (λ n. n + 1) same)) record {
      first = omega arith;
      last = omega (arith, size, h);
      is = subst (λ k. shut (slice_index_or (texts_of names) k [])) (sym back) (subst shut (sym there) is);
    }

-- and so by one of the numbers that there are
pub shut_among : (shut : List ℕ → Type 0) (names : List (Bor (List ℕ))) (e : MergeRefused) → is_outside e ≡ true → ((i : ℕ) → e ≡ refused.ReadDevice i → IsShut shut (texts_of names) i)
    → TellsAmong (is_input (length names)) e
shut_among shut names refused.Memory out is = tt
shut_among shut names (refused.ReadDevice i) out is =
    let size = length-map names (λ (n : Bor (List ℕ)). n.now) in
    let last = (is i refl).last in
    input_within (length names) i (is i refl).first (omega (arith, size, last))
shut_among shut names (refused.NoHeader i) out is = absurd (false≢true out)
shut_among shut names (refused.NoPlaces i) out is = absurd (false≢true out)
shut_among shut names (refused.OtherHeader i) out is = absurd (false≢true out)
shut_among shut names (refused.RaggedRow i row) out is = absurd (false≢true out)
shut_among shut names (refused.BadPlace i row) out is = absurd (false≢true out)
shut_among shut names (refused.NoPlace i row) out is = absurd (false≢true out)
shut_among shut names (refused.NotInOrder i row) out is = absurd (false≢true out)
shut_among shut names (refused.RepeatedPlace place) out is = absurd (false≢true out)
