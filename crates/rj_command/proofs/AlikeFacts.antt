-- Columns that hold numbers, and the keys that are told.
use Rattle.std.proofs.Common.{◌≡◌, ◌∙◌, ℕ, ◌+◌, ◌<◌, Bool, true, false, not, cond, ◌&&◌, List, [], ◌∷◌, ◌++◌, Option, Some, None, is_some, length, drop, map, get_or, append_assoc, refl, ap, sym}
use Rattle.std.specs.List.{filter, list_all, slice_get}
use Rattle.std.specs.Prelude.{unwrap_or}
use Rattle.std.proofs.lemmas.Bool.{and_left, and_right}
use Rattle.std.proofs.lemmas.List.{drop_more, map-append}
use Rattle.std.proofs.lemmas.List.Sums.{AllPass-from_list_all}
use Rattle.std.proofs.lemmas.Option.{get_or_from_slice_get}
use Rattle.rj_columns.specs.declared.cell.ColumnType.{ColumnType}
use Rattle.rj_columns.specs.Contents.{Content}
use Rattle.rj_columns.specs.Tables.{TableValue}
use Rattle.rj_condition.specs.Fits.{family_in, pair_fits}
use Rattle.rj_condition.proofs.KeyColumns.{one_family, there}
use Rattle.rj_line.specs.declared.request.Request.{Request}
use Rattle.rj_command.specs.declared.join.numerals.Spelling.TheVariants as spelling
use Rattle.rj_command.specs.declared.join.stats.TextKey.{TextKey}
use Rattle.rj_command.specs.Alike.{are_alike, are_both, first_length, is_text_key, names_at, names_of, shown_name, text_key_names}

decided : (texts numbers plain codes : Bool) → texts ≡ true → plain ≡ false → codes ≡ false → numbers ≡ (texts && numbers && not plain && not codes)
decided false numbers plain codes a b c = absurd cc
decided true numbers true codes a b c = absurd cc
decided true numbers false true a b c = absurd cc
decided true true false false a b c = refl
decided true false false false a b c = refl

-- whether two columns are alike, where the left one has a text of so many bytes
module _ (l r : List Content) (digits : ℕ) (first : Some digits ≡ first_length l) where
  alike : are_alike l r ≡ (is_some (first_length r) && are_both spelling.Numeral l r && not (are_both spelling.Plain l r) && not (are_both (spelling.Code digits) l r))
  alike = ap (λ (o : Option ℕ). is_some o && is_some (first_length r) && are_both spelling.Numeral l r && not (are_both spelling.Plain l r) && not (are_both (spelling.Code (unwrap_or o 0)) l r)) (sym first)

  pub alike_none : None ≡ first_length r → false ≡ are_alike l r
  alike_none no_text = sym (alike ∙ and_left _ _ (and_left _ _ (and_left _ _ (ap is_some (sym no_text)))))

  pub alike_plain : are_both spelling.Plain l r ≡ true → false ≡ are_alike l r
  alike_plain h = sym (alike ∙ and_left _ _ (and_right _ _ (ap not h)))

  pub alike_codes : are_both (spelling.Code digits) l r ≡ true → false ≡ are_alike l r
  alike_codes h = sym (alike ∙ and_right _ _ (ap not h))

  pub alike_others : (n : ℕ) → Some n ≡ first_length r → are_both spelling.Plain l r ≡ false → are_both (spelling.Code digits) l r ≡ false → are_both spelling.Numeral l r ≡ are_alike l r
  alike_others n text plain codes = decided _ _ _ _ (ap is_some (sym text)) plain codes ∙ sym alike

-- the columns of a key are in range
pub key_in : (left right : List ColumnType) (keys : List (ℕ × ℕ)) (k : ℕ) (key : ℕ × ℕ) → list_all (pair_fits left right) keys ≡ true → k < length keys
    → (((get_or keys k key).0 < length left) × ((get_or keys k key).1 < length right))
key_in left right keys k key all low =
    let p = get_or keys k key in
    let fits : pair_fits left right p ≡ true = AllPass-from_list_all (pair_fits left right) keys all k key low in
    let known = one_family (family_in (slice_get left p.0)) (family_in (slice_get right p.1)) fits in
    (there left p.0 (λ n. known.0 (ap family_in n)), there right p.1 (λ n. known.1 (ap family_in n)))

module _ {A B : Type 0} (p : A → Bool) (f : A → B) (xs : List A) (i : ℕ) (x : A) (at : drop i xs ≡ x ∷ drop (i + 1) xs) where
  -- one that is kept, and those behind it
  kept_next : p x ≡ true → map f (filter p (drop i xs)) ≡ f x ∷ map f (filter p (drop (i + 1) xs))
  kept_next passes =
      let rest = filter p (drop (i + 1) xs) in
      ap (λ (l : List A). map f (filter p l)) at ∙ ap (λ (b : Bool). map f (cond b (x ∷ rest) rest)) passes

  -- one that isn't
  left_next : p x ≡ false → map f (filter p (drop i xs)) ≡ map f (filter p (drop (i + 1) xs))
  left_next fails =
      let rest = filter p (drop (i + 1) xs) in
      ap (λ (l : List A). map f (filter p l)) at ∙ ap (λ (b : Bool). map f (cond b (x ∷ rest) rest)) fails

none_kept : {A : Type 0} (p : A → Bool) → ((x : A) → p x ≡ false) → (xs : List A) → filter p xs ≡ []
none_kept p none [] = refl
none_kept p none (x ∷ xs) = ap (λ b. cond b (x ∷ filter p xs) (filter p xs)) (none x) ∙ none_kept p none xs

module _ (q : Request) (l r : TableValue) (keys : List (ℕ × ℕ)) where
  -- no key is told unless both tables have undeclared columns
  pub none_left : q.left_undeclared ≡ false → text_key_names q l r keys ≡ []
  none_left closed = ap (map (names_at l r)) (none_kept (is_text_key q l r) (λ k. and_left _ _ (and_left _ _ (and_left _ _ closed))) keys)

  pub none_right : q.right_undeclared ≡ false → text_key_names q l r keys ≡ []
  none_right closed = ap (map (names_at l r)) (none_kept (is_text_key q l r) (λ k. and_left _ _ (and_right _ _ (and_left _ _ closed))) keys)

  module _ (k : ℕ) (low : k < length keys) (items : List TextKey) where
    -- a key that is told, and one that isn't
    pub told_next : (new : List TextKey) (told : TextKey) (n m : List ℕ) → is_text_key q l r (get_or keys k (0, 0)) ≡ true
        → slice_get l.names (get_or keys k (0, 0)).0 ≡ Some n → slice_get r.names (get_or keys k (0, 0)).1 ≡ Some m
        → names_of told ≡ (shown_name n, shown_name m) → new ≡ items ++ told ∷ []
        → map names_of new ++ text_key_names q l r (drop (k + 1) keys) ≡ map names_of items ++ text_key_names q l r (drop k keys)
    told_next new told n m is left right named pushed =
        let x = get_or keys k (0, 0) in
        let rest = text_key_names q l r (drop (k + 1) keys) in
        let same : (shown_name n, shown_name m) ≡ names_at l r x =
        ap (λ (s : List ℕ). (shown_name s, shown_name m)) (sym (get_or_from_slice_get l.names x.0 n [] left))
        ∙ ap (λ (s : List ℕ). (shown_name (get_or l.names x.0 []), shown_name s)) (sym (get_or_from_slice_get r.names x.1 m [] right)) in
        let more : map names_of new ≡ map names_of items ++ names_at l r x ∷ [] =
        ap (map names_of) pushed ∙ (map-append names_of items (told ∷ []) ∙ ap (λ (t : List ℕ × List ℕ). map names_of items ++ t ∷ []) (named ∙ same)) in
        ap (λ (ts : List (List ℕ × List ℕ)). ts ++ rest) more
        ∙ (append_assoc (map names_of items) (names_at l r x ∷ []) rest
        ∙ ap (λ (ts : List (List ℕ × List ℕ)). map names_of items ++ ts) (sym (kept_next (is_text_key q l r) (names_at l r) keys k x (drop_more keys k (0, 0) low) is)))

    pub untold_next : is_text_key q l r (get_or keys k (0, 0)) ≡ false
        → map names_of items ++ text_key_names q l r (drop (k + 1) keys) ≡ map names_of items ++ text_key_names q l r (drop k keys)
    untold_next is =
        ap (λ (ts : List (List ℕ × List ℕ)). map names_of items ++ ts)
        (sym (left_next (is_text_key q l r) (names_at l r) keys k (get_or keys k (0, 0)) (drop_more keys k (0, 0) low) is))
