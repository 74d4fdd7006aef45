-- Texts that are cut into ranges.
use Rattle.std.proofs.Common.{inl, inr, subst, ◌≡◌, ◌≢◌, ◌<◌, ◌≤◌, ◌+◌, ◌-◌, ◌^◌, ◌⊎◌, ℕ, suc, List, [], ◌∷◌, ◌++◌, Option, Some, Bool, true, false, All, refl, sym, ap, ◌∙◌, arith, length, take, drop, length-take-le}
use Rattle.std.specs.Prelude.{slice_range}
use Rattle.std.specs.Io.KnownBytes.{Consumes, IsAtEnd}
use Rattle.std.proofs.lemmas.Bool.{cases_lt}
use Rattle.std.proofs.lemmas.List.{append-nil, drop-drop, length-append, take-append-drop}
use Rattle.std.proofs.lemmas.List.Elements.{All-push}
use Rattle.std.proofs.Math.Seq.{take-add, take-append_seam}
use Rattle.csv.specs.Reading.{records}
use Rattle.csv.specs.declared.parser.State.TheVariants as st
use Rattle.rj_csv_io.specs.Cuts.{state_after}
use Rattle.rj_csv_io.specs.Pieces.{IsLineEnd, piece_records}
use Rattle.rj_csv_io.proofs.CutFacts.{after-append, records-split}
use Rattle.rj_csv_io.specs.StrictReading.{config_of}
use Rattle.rj_shards.specs.Ranges.{AreCuts, AreShort, EndIn, IsCutPlace, IsCutting, IsReadFor, IsShort, RiseBy, RiseTo, range_records}
use Rattle.rj_shards.specs.Internal.Taken.{IsTaken}
use Rattle.rj_shards.specs.Internal.Underway.{SplitsAs}
use Rattle.rj_shards.specs.declared.division.cuts.Cutting.{Cutting}
use Rattle.rj_shards.proofs.ShortFacts.{line-in, line-out, read-bound, short-more, short-none}
use Rattle.rj_shards.proofs.TakenFacts.{none-more, order-now, taken-more, taken-none, told-now}
use Rattle.rj_shards.proofs.LenientFacts.{records-none}

-- ---- places that rise

rise-none : (size : ℕ) → RiseTo size 0 [] 0
unfolding RiseTo
rise-none size = refl

rise-more : (size from : ℕ) (cuts : List ℕ) (last next : ℕ) → RiseTo size from cuts last → last + size ≤ next → RiseTo size from (cuts ++ next ∷ []) next
unfolding RiseTo
rise-more size from [] last next h far = (omega (arith, h, far), refl)
rise-more size from (cut ∷ cuts) last next h far = (h.0, rise-more size cut cuts last next h.1 far)

rise-by : (size from : ℕ) (cuts : List ℕ) (last : ℕ) → RiseTo size from cuts last → RiseBy size from cuts
unfolding RiseTo RiseBy
rise-by size from [] last h = tt
rise-by size from (cut ∷ cuts) last h = (h.0, rise-by size cut cuts last h.1)

-- ---- ranges

-- a list that has an element is not empty
some-front : (a b : List (List (List ℕ))) → a ≢ [] → drop 1 (a ++ b) ≡ drop 1 a ++ b
some-front [] b h = absurd (h refl)
some-front (x ∷ a) b h = refl

some-both : (a b : List (List (List ℕ))) → a ≢ [] → a ++ b ≢ []
some-both [] b h = absurd (h refl)
some-both (x ∷ a) b h = λ e. cc

some-last : (a b : List (List (List ℕ))) → b ≢ [] → a ++ b ≢ []
some-last [] b h = h
some-last (x ∷ a) b h = λ e. cc

piece-split : (d : ℕ) (is_first : Bool) (a b : List ℕ) → state_after d st.StartRecord a ≡ st.StartRecord → (is_first ≡ true → records (config_of d) a ≢ [])
    → piece_records d is_first (a ++ b) ≡ piece_records d is_first a ++ piece_records d false b
piece-split d true a b ends some = ap (λ (r : List (List (List ℕ))). drop 1 r) (records-split d a b ends) ∙ some-front (records (config_of d) a) (records (config_of d) b) (some refl)
piece-split d false a b ends some = records-split d a b ends

-- the header was seen
header-seen : (is_first ahead : Bool) (piece : List (List (List ℕ))) → SplitsAs is_first piece ahead
    → ahead ≡ false → is_first ≡ true → piece ≢ []
header-seen is_first ahead piece law a f = λ e. let h = rw (a, f, e) at (law ([] ∷ [])) in cc h

-- the header is still to come
header-ahead : (is_first : Bool) (piece : List (List (List ℕ))) → SplitsAs is_first piece true
    → (is_first ≡ true) × (piece ≡ [])
header-ahead true [] law = (refl, refl)
header-ahead true (r ∷ piece) law =
    let size = ap length (law ([] ∷ [])) in let a = length-append piece ([] ∷ []) in let b = ap length (append-nil piece) in
    absurd (omega (arith, size, a, b))
header-ahead false piece law =
    let size = ap length (law ([] ∷ [])) in let a = length-append piece ([] ∷ []) in let b = ap length (append-nil piece) in
    absurd (omega (arith, size, a, b))

-- a range between two places
between : (text : List ℕ) (from cut : ℕ) → from ≤ cut → take cut text ≡ take from text ++ slice_range text from cut
between text from cut h =
    let e : cut ≡ from + (cut - from) = omega (arith, h) in
    ap (λ n. take n text) e ∙ take-add from (cut - from) text

behind : (text : List ℕ) (from cut : ℕ) → from ≤ cut → drop from text ≡ slice_range text from cut ++ drop cut text
behind text from cut h =
    let e : from + (cut - from) ≡ cut = omega (arith, h) in
    sym (take-append-drop (cut - from) (drop from text)) ∙ ap (λ l. slice_range text from cut ++ l) (drop-drop (cut - from) from text ∙ ap (λ n. drop n text) e)

none-taken : (d : ℕ) (text : List ℕ) → state_after d st.StartRecord (take 0 text) ≡ st.StartRecord
unfolding state_after
none-taken d text = refl

-- behind a record no header is ahead
records-on : (d : ℕ) (text : List ℕ) (at to : ℕ) → at ≤ to → state_after d st.StartRecord (take at text) ≡ st.StartRecord → records (config_of d) (take at text) ≢ []
    → records (config_of d) (take to text) ≢ []
records-on d text at to h ends some =
    let slice = slice_range text at to in
    subst (λ r. r ≢ []) (sym (ap (records (config_of d)) (between text at to h) ∙ records-split d (take at text) slice ends))
    (some-both (records (config_of d) (take at text)) (records (config_of d) slice) some)

module _ (d size block : ℕ) (text : List ℕ) where
  ranges : (cuts : List ℕ) (from : ℕ) (is_first : Bool) → RiseBy size from cuts → state_after d st.StartRecord (take from text) ≡ st.StartRecord
      → (is_first ≡ true → from ≡ 0) → All (IsCutPlace d text) cuts → piece_records d is_first (drop from text) ≡ range_records d is_first from cuts text
  unfolding range_records RiseBy
  ranges [] from is_first rise ends start good = refl
  ranges (cut ∷ cuts) from is_first rise ends start good =
      let order : from ≤ cut = omega (arith, rise.0) in
      let here = good 0 0 (omega arith) in
      let part = between text from cut order in
      let slice = slice_range text from cut in
      let clean : state_after d st.StartRecord slice ≡ st.StartRecord =
      ap (λ s. state_after d s slice) (sym ends) ∙ (sym (after-append d st.StartRecord (take from text) slice) ∙ (ap (state_after d st.StartRecord) (sym part) ∙ here.line.ends)) in
      let some : is_first ≡ true → records (config_of d) slice ≢ [] = λ e r. here.header (ap (records (config_of d)) (part ∙ ap (λ n. take n text ++ slice) (start e)) ∙ r) in
      ap (piece_records d is_first) (behind text from cut order)
      ∙ (piece-split d is_first slice (drop cut text) clean some
      ∙ ap (λ l. piece_records d is_first slice ++ l) (ranges cuts cut false rise.1 here.line.ends (λ e. absurd (cc)) (λ k d l. good (suc k) d (omega (arith, l)))))

  -- places that rise and are ends of records cut the text
  are-cuts : (cuts : List ℕ) (last : ℕ) → RiseTo size 0 cuts last → All (IsCutPlace d text) cuts → AreShort d size block text 0 cuts → IsShort d size block text last (length text)
      → AreCuts d size block text cuts
  are-cuts cuts last rise good short end = record {
    rise = rise-by size 0 cuts last rise;
    places = good;
    records = ranges cuts 0 true (rise-by size 0 cuts last rise) (none-taken d text) (λ e. refl) good;
    short = short-more d size block text 0 cuts last (length text) rise short end;
  }

  -- nothing was looked at
  pub cutting-none : (tells : Option (List ℕ)) (now : Cutting) → tells ≡ Some text → now.bytes.items ≡ [] → now.place ≡ 0 → now.is_first ≡ true → now.cuts.items ≡ [] → now.last ≡ 0
      → IsCutting d size block text tells now 0
  cutting-none tells now told bytes place first cuts last = record {
    front = taken-none d text now.bytes.items tells told bytes;
    place = place;
    ends = none-taken d [];
    header = λ e. absurd (cc);
    ahead = λ e. records-none d;
    rise = rw (cuts, last) (rise-none size);
    behind = omega (arith, last);
    cuts = rw cuts (λ k d l. absurd (omega (arith, l)));
    short = rw cuts (short-none d size block text);
    passed = λ at far here. omega (arith, place);
  }

  module _ (old : Cutting) (bytes : List ℕ) (before tells : Option (List ℕ)) (n : ℕ) (u : IsCutting d size block text before old n)
      (reads : (start : Option (List ℕ)) → Consumes start before old.bytes.items → Consumes start tells bytes) where
    -- what is told behind the bytes that were read
    abbrev left : List ℕ
    left = (told-now d text old.bytes.items bytes before tells n u.front reads).more

    abbrev taken : List ℕ
    taken = u.front.taken

    order-all : text ≡ taken ++ (bytes ++ left)
    order-all = order-now d text old.bytes.items bytes before tells n u.front reads

    -- a range that ends among the bytes
    short-now : IsReadFor d block old.bytes.items bytes → (end : ℕ) → end ≤ length bytes → (end ≡ length bytes) ⊎ IsLineEnd d bytes end → (next : ℕ) → next ≡ old.place + end → IsShort d size block text old.last next
    short-now r end within stops next is = λ at run far here each.
        let found = read-bound d block old.bytes.items bytes r u.front.none end stops in
        let late = u.passed at far here in
        let more : found.0 < run = elim (cases_lt found.0 run) [ inl less ↦ less | inr few ↦ absurd (stuck found.0 found.1 found.2 run few each) ] in
        omega (arith, late, more, within, found.3, is)
      where
        stuck : (plain : ℕ) → plain ≤ end → ((at : ℕ) → at ≤ plain → IsLineEnd d bytes at → ⊥) → (run : ℕ) → run ≤ plain → EndIn d text old.last next run → ⊥
        stuck plain some none run few each =
            let found = each old.place u.behind (omega (arith, few, some, is)) in
            let k = found.0 - old.place in
            let at : found.0 ≡ length taken + k = omega (arith, found.1, u.place) in
            let line : IsLineEnd d (taken ++ (bytes ++ left)) (length taken + k) = subst (λ m. IsLineEnd d (taken ++ (bytes ++ left)) m) at (subst (λ l. IsLineEnd d l found.0) order-all found.3) in
            none k (omega (arith, found.2, few)) (line-in d taken bytes left u.ends k (omega (arith, found.2, few, some, within)) (omega (arith, found.1)) line)

    -- the text was read to its end
    pub finish-cuts : IsReadFor d block old.bytes.items bytes → IsAtEnd tells → AreCuts d size block text old.cuts.items
    finish-cuts r end =
        let none : left ≡ [] = none-more d text old.bytes.items bytes before tells n u.front reads end in
        let a = ap length order-all in let b = length-append taken (bytes ++ left) in let c = ap length (ap (λ l. bytes ++ l) none ∙ append-nil bytes) in
        are-cuts old.cuts.items old.last u.rise u.cuts u.short (short-now r (length bytes) (omega arith) (inl refl) (length text) (omega (arith, a, b, c, u.place)))

    -- a place past all numbers of 64 bits
    pub too-long : (end : ℕ) → end ≤ length bytes → 2 ^ 64 ≤ old.place + end → 2 ^ 64 - 1 ≤ length text
    too-long end within high =
        let a = ap length order-all in let b = length-append taken (bytes ++ left) in let c = length-append bytes left in
        omega (arith, a, b, c, u.place, within, high)

    module _ (end : ℕ) (within : end ≤ length bytes) (line : IsLineEnd d bytes end) (rest : (at : ℕ) → end < at → at ≤ length bytes → IsLineEnd d bytes at → ⊥) (ahead : Bool)
        (law : SplitsAs old.is_first (records (config_of d) (take end bytes)) ahead) where
      abbrev piece : List ℕ
      piece = take end bytes

      abbrev front : (next : List ℕ) → next ≡ drop end bytes → IsTaken d text tells next (n + 1)
      front = taken-more d text old.bytes.items bytes before tells n u.front reads end within line rest

      size-on : length (taken ++ piece) ≡ old.place + end
      size-on = let a = length-append taken piece in let b = length-take-le end bytes within in omega (arith, a, b, u.place)

      ends-on : state_after d st.StartRecord (taken ++ piece) ≡ st.StartRecord
      ends-on = after-append d st.StartRecord taken piece ∙ (ap (λ s. state_after d s piece) u.ends ∙ line.ends)

      header-on : ahead ≡ false → records (config_of d) (taken ++ piece) ≢ []
      header-on e = go old.is_first refl
        where
          go : (b : Bool) → old.is_first ≡ b → records (config_of d) (taken ++ piece) ≢ []
          go false is = rw (records-split d taken piece u.ends) (some-both (records (config_of d) taken) (records (config_of d) piece) (u.header is))
          go true is = rw (records-split d taken piece u.ends) (some-last (records (config_of d) taken) (records (config_of d) piece) (header-seen old.is_first ahead (records (config_of d) piece) law e is))

      ahead-on : ahead ≡ true → records (config_of d) (taken ++ piece) ≡ []
      ahead-on e =
          let found = header-ahead old.is_first (records (config_of d) piece) (subst (λ b. SplitsAs old.is_first (records (config_of d) piece) b) e law) in
          let a = u.ahead found.0 in
          records-split d taken piece u.ends ∙ ((λ i. a i ++ found.1 i))

      front-on : (at : ℕ) → at ≡ old.place + end → take at text ≡ taken ++ piece
      front-on at is = (λ i. take ((is ∙ sym size-on) i) ((front (drop end bytes) refl).order i)) ∙ take-append_seam (taken ++ piece) (drop end bytes ++ left)

      -- a place behind the header
      place-on : (at : ℕ) → at ≡ old.place + end → ahead ≡ false → IsCutPlace d text at
      place-on at is e =
          let a = ap length order-all in let b = length-append taken (bytes ++ left) in let c = length-append bytes left in
          let there : length taken + end ≡ at = omega (arith, is, u.place) in
          record {
            within = omega (arith, a, b, c, is, u.place, within);
            line = subst (λ m. IsLineEnd d text m) there (subst (λ l. IsLineEnd d l (length taken + end)) (sym order-all) (line-out d taken bytes left u.ends end within line));
            header = rw (front-on at is) (header-on e);
          }

      -- a piece behind whose end no cut was wanted
      passed-on : (next : ℕ) → next ≡ old.place + end → (ahead ≡ false → next < old.last + size) → (at : ℕ) → old.last + size ≤ at → IsCutPlace d text at → next ≤ at
      passed-on next is few at far here = elim (cases_lt at next) [ inr late ↦ late | inl early ↦ absurd (go ahead refl early) ]
        where
          go : (b : Bool) → ahead ≡ b → at < next → ⊥
          go false e early = let less = few e in omega (arith, less, early, far)
          go true e early = records-on d text at next (omega (arith, early)) here.line.ends here.header (ap (records (config_of d)) (front-on next is) ∙ ahead-on e)

      module _ (next : Cutting) (cut-off : next.bytes.items ≡ drop end bytes) (place : next.place ≡ old.place + end) (first : next.is_first ≡ ahead) where
        -- a piece was looked at
        looked : RiseTo size 0 next.cuts.items next.last → next.last ≤ next.place → All (IsCutPlace d text) next.cuts.items → AreShort d size block text 0 next.cuts.items
            → ((at : ℕ) → next.last + size ≤ at → IsCutPlace d text at → next.place ≤ at) → IsCutting d size block text tells next (n + 1)
        looked rise behind cuts short passed = record {
          front = front next.bytes.items cut-off;
          place = place ∙ sym size-on;
          ends = ends-on;
          header = λ e. header-on (sym first ∙ e);
          ahead = λ e. ahead-on (sym first ∙ e);
          rise = rise;
          behind = behind;
          cuts = cuts;
          short = short;
          passed = passed;
        }

        -- a piece without a cut
        pub pass : next.cuts.items ≡ old.cuts.items → next.last ≡ old.last → (ahead ≡ false → next.place < old.last + size) → IsCutting d size block text tells next (n + 1)
        pass cuts last few =
            looked (rw (cuts, last) u.rise) (omega (arith, u.behind, place, last)) (rw cuts u.cuts) (rw cuts u.short) (λ at far here. passed-on next.place place few at (omega (arith, far, last)) here)

        -- a piece with a cut at its end
        pub put : next.cuts.items ≡ old.cuts.items ++ next.place ∷ [] → next.last ≡ next.place → ahead ≡ false → size ≤ next.place - old.last → IsReadFor d block old.bytes.items bytes
            → IsCutting d size block text tells next (n + 1)
        put cuts last seen far read =
            looked (rw (cuts, last) (rise-more size 0 old.cuts.items old.last next.place u.rise (omega (arith, far, u.behind, place)))) (omega (arith, last))
            (rw cuts (All-push (IsCutPlace d text) old.cuts.items next.place u.cuts (place-on next.place place seen)))
            (rw cuts (short-more d size block text 0 old.cuts.items old.last next.place u.rise u.short (short-now read end within (inr line) next.place place)))
            (λ at late here. omega (arith, late, last))
