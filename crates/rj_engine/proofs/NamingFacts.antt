-- The names that are written of a header are lawful, as many, and unchanged where they don't stand before.
use Rattle.std.proofs.Common.{◌≡◌, ◌∙◌, ◌<◌, ◌≤◌, ◌+◌, ◌-◌, ℕ, zero, suc, List, [], ◌∷◌, ◌++◌, length, map, take, drop, Bool, true, false, true≢false, cond, Option, None, Some, refl, sym, ap, subst, arith, inl, inr, add-one, append_assoc, drop-cons}
use Rattle.std.specs.Prelude.{IsUtf8, nat_le, ◌≢◌, ◌||◌, All, fold, if◌then◌else◌, not, slice_index_or, Result, Ok, Err}
use Rattle.std.specs.Cmp.{IsEquivalence}
use Rattle.std.specs.List.{find, range_with_len}
use Rattle.std.specs.Str.{bytes_eq, str_eq_ignore_ascii_case, str_to_ascii_lowercase}
use Rattle.std.proofs.Math.Bool.{and-true, or-false, or-true}
use Rattle.std.proofs.lemmas.Bool.{and_parts, cases_Bool, lt-ltb, not-true}
use Rattle.std.proofs.lemmas.Str.{is_utf8-from_IsUtf8}
use Rattle.std.proofs.lemmas.List.{append-nil, drop_all, length-append}
use Rattle.std.proofs.lemmas.List.Elements.{All-cons, All-get_or, All-head, All-map, All-nil, All-tail, All-weaker}
use Rattle.std.proofs.lemmas.List.Folds.{list_any-append}
use Rattle.std.proofs.lemmas.Map.Steps.{list_any_congr}
use Rattle.std.proofs.lemmas.Slice.Eq.{bytes_eq-Decides}
use Rattle.std.proofs.Math.Seq.{take-append_seam}
use Rattle.rj_columns.specs.Names.{is_name, name_fault}
use Rattle.rj_columns.specs.Tables.{TableValue}
use Rattle.rj_columns.specs.declared.refused.BuildRefused.{BuildRefused}
use Rattle.rj_columns.specs.declared.refused.BuildRefused.TheVariants as refused
use Rattle.rj_condition.specs.Fits.{fits}
use Rattle.rj_condition.specs.declared.bound.BoundJoin.{BoundJoin}
use Rattle.rj_settings.specs.declared.choice.Repeated.{Repeated}
use Rattle.rj_settings.specs.declared.choice.Repeated.TheVariants.{Kept, Qualified, Suffixed}
use Rattle.rj_engine.specs.declared.naming.NamingRefused.{NamingRefused}
use Rattle.rj_engine.specs.declared.naming.NamingRefused.TheVariants.{NoFreeName}
use Rattle.rj_engine.specs.Cells.{IsColumnOf, columns_of, header_of, name_of}
use Rattle.rj_engine.specs.declared.origin.Origin.{Origin}
use Rattle.rj_engine.specs.declared.origin.Origin.TheVariants.{Coalesced, Left, Right}
use Rattle.rj_engine.proofs.Sources.{columns-there}
use Rattle.rj_engine.specs.Naming.{HasLawfulNames, free_name, is_among, is_free, marked, next_name, renamed, with_mark, with_name, with_next, written_names}
use Rattle.rj_engine.specs.Chosen.{chosen_columns, chosen_header}
use Rattle.rj_engine.proofs.ChosenFacts.{chosen-columns-there}
use Rattle.rj_settings.specs.declared.choice.Choice.{Choice}

abbrev pub Names : Type 0
Names = List (List ℕ)

same_bool : (a b : Bool) → (a ≡ true → b ≡ true) → (b ≡ true → a ≡ true) → a ≡ b
same_bool true true f g = refl
same_bool true false f g = sym (f refl)
same_bool false true f g = g refl
same_bool false false f g = refl

-- to be alike when ASCII case is ignored is an equivalence
alike_laws : IsEquivalence str_eq_ignore_ascii_case
alike_laws = record {
  refl = λ x. (bytes_eq-Decides (str_to_ascii_lowercase x) (str_to_ascii_lowercase x)).1 refl;
  symm = λ x y.
      let one = bytes_eq-Decides (str_to_ascii_lowercase x) (str_to_ascii_lowercase y) in
      let other = bytes_eq-Decides (str_to_ascii_lowercase y) (str_to_ascii_lowercase x) in
      same_bool _ _ (λ h. other.1 (sym (one.0 h))) (λ h. one.1 (sym (other.0 h)));
  congr = λ x y z h. ap (λ (t : List ℕ). bytes_eq t (str_to_ascii_lowercase z)) ((bytes_eq-Decides (str_to_ascii_lowercase x) (str_to_ascii_lowercase y)).0 h);
}

-- what a search finds passes its test
find_passes : (p : List ℕ → Bool) (xs : Names) (x : List ℕ) → find p xs ≡ Some x → p x ≡ true
find_passes p [] x e = let g : ◌≡◌ {A = Option (List ℕ)} None (Some x) = e in cc
find_passes p (y ∷ ys) x e = elim (cases_Bool (p y)) [
  | inl h ↦
      let g : ◌≡◌ {A = Option (List ℕ)} (Some y) (Some x) = sym (ap (λ (b : Bool). cond b (Some y) (find p ys)) h) ∙ e in
      let same : y ≡ x = cc in
      sym (ap p same) ∙ h
  | inr h ↦ find_passes p ys x (sym (ap (λ (b : Bool). cond b (Some y) (find p ys)) h) ∙ e)
]

-- of what is one of the header's names, those written have the like exactly where those before have it
abbrev AreAlikeIn : Names → Names → Names → Type 0
AreAlikeIn header before written = (x : List ℕ) → is_among header x ≡ true → is_among written x ≡ is_among before x

is_among_more : (names : Names) (name x : List ℕ) → is_among (names ++ name ∷ []) x ≡ (is_among names x || str_eq_ignore_ascii_case x name)
is_among_more names name x = list_any-append (str_eq_ignore_ascii_case x) names (name ∷ []) ∙ last (is_among names x) (str_eq_ignore_ascii_case x name)
  where
    last : (a b : Bool) → (a || (b || false)) ≡ (a || b)
    last true b = refl
    last false true = refl
    last false false = refl

-- a name that is like one of the header's is none of a list's where the list has none of the header's
other_is_unlike : (header : Names) (next x : List ℕ) → is_among header next ≡ false → is_among header x ≡ true → str_eq_ignore_ascii_case x next ≡ false
other_is_unlike header next x none some = elim (cases_Bool (str_eq_ignore_ascii_case x next)) [
  | inl h ↦ h ∙ sym (sym (list_any_congr alike_laws x next header h ∙ none) ∙ some)
  | inr h ↦ h
]

-- the written name of the header's next one: a lawful one, like none that is written, and the header's own where that stands before no more than once
record IsNext (header before written : Names) (name next : List ℕ) : Type 0 where
  lawful : is_name name ≡ true → is_name next ≡ true
  fresh : is_among written next ≡ false
  alike : AreAlikeIn header (before ++ name ∷ []) (written ++ next ∷ [])
  own : is_among before name ≡ false → next ≡ name

next_own : (header before written : Names) (name : List ℕ) → AreAlikeIn header before written → is_among header name ≡ true
    → is_among before name ≡ false → IsNext header before written name name
next_own header before written name alike some none = record {
  lawful = λ h. h;
  fresh = alike name some ∙ none;
  alike = λ x h. is_among_more written name x ∙ (ap (λ (b : Bool). b || str_eq_ignore_ascii_case x name) (alike x h) ∙ sym (is_among_more before name x));
  own = λ h. refl;
}

-- a repeated name adds nothing that is like another one
repeated_more : (before : Names) (name x : List ℕ) → is_among before name ≡ true → is_among (before ++ name ∷ []) x ≡ is_among before x
repeated_more before name x again = is_among_more before name x ∙ elim (cases_Bool (str_eq_ignore_ascii_case x name)) [
  | inl h ↦
      let there = list_any_congr alike_laws x name before h ∙ again in
      ap (λ (b : Bool). b || str_eq_ignore_ascii_case x name) there ∙ sym there
  | inr h ↦ ap (λ (b : Bool). is_among before x || b) h ∙ or-false (is_among before x)
]

next_free : (header before written : Names) (name next : List ℕ) → AreAlikeIn header before written → is_among before name ≡ true
    → is_free header written next ≡ true → IsNext header before written name next
next_free header before written name next alike again free =
    let outer = and_parts _ _ free in
    let inner = and_parts _ _ outer.0 in
    let unlike = not-true _ inner.1 in
    let fresh = not-true _ outer.1 in
    record {
      lawful = λ h. inner.0;
      fresh = fresh;
      alike = λ x h.
          is_among_more written next x
          ∙ (ap (λ (b : Bool). is_among written x || b) (other_is_unlike header next x unlike h)
          ∙ (or-false (is_among written x) ∙ (alike x h ∙ sym (repeated_more before name x again))));
      own = λ none. absurd (true≢false (sym again ∙ none));
    }

next_is : (repeated : Repeated) (header before written : Names) (name next : List ℕ) → take (length written) header ≡ before
    → AreAlikeIn header before written → is_among header name ≡ true → next_name repeated header written name ≡ Some next
    → IsNext header before written name next
unfolding free_name
next_is repeated header before written name next front alike some e =
    let choose : Bool → Option (List ℕ) = λ b. if b then free_name repeated header written name else Some name in
    let at : choose (is_among before name) ≡ Some next = ap (λ (names : Names). choose (is_among names name)) (sym front) ∙ e in
    elim (cases_Bool (is_among before name)) [
      | inl again ↦ next_free header before written name next alike again (find_passes (is_free header written) (map (marked repeated name) (range_with_len 1 128)) next (sym (ap choose again) ∙ at))
      | inr none ↦
          let g : ◌≡◌ {A = Option (List ℕ)} (Some name) (Some next) = sym (ap choose none) ∙ at in
          let same : name ≡ next = cc in
          subst (λ (n : List ℕ). IsNext header before written name n) same (next_own header before written name alike some none)
    ]

-- behind a fault nothing is written
pub fold_err : (repeated : Repeated) (header rest : Names) (e : NamingRefused) → fold (with_next repeated header) (Err e) rest ≡ Err e
fold_err repeated header [] e = refl
fold_err repeated header (name ∷ rest) e = fold_err repeated header rest e

pub fault_behind : (seen tail : Names) (name : List ℕ) → is_name name ≡ true → is_among seen name ≡ false → name_fault (seen ++ name ∷ []) tail ≡ None
    → name_fault seen (name ∷ tail) ≡ None
unfolding name_fault
fault_behind seen tail name good fresh rest = rw (good, fresh) rest

-- what is written of the rest of a header
record IsRest (before written rest names : Names) : Type 0 where
  tail : Names
  is : names ≡ written ++ tail
  many : length tail ≡ length rest
  lawful : All (λ n. is_name n ≡ true) rest → name_fault written tail ≡ None
  own : (i : ℕ) → i < length rest → is_among (before ++ take i rest) (slice_index_or rest i []) ≡ false → slice_index_or tail i [] ≡ slice_index_or rest i []

own_at : (header before written rest tail : Names) (name next : List ℕ) → IsNext header before written name next
    → ((i : ℕ) → i < length rest → is_among ((before ++ name ∷ []) ++ take i rest) (slice_index_or rest i []) ≡ false → slice_index_or tail i [] ≡ slice_index_or rest i [])
    → (i : ℕ) → i < length (name ∷ rest) → is_among (before ++ take i (name ∷ rest)) (slice_index_or (name ∷ rest) i []) ≡ false
    → slice_index_or (next ∷ tail) i [] ≡ slice_index_or (name ∷ rest) i []
own_at header before written rest tail name next step behind zero low none = step.own (ap (λ (names : Names). is_among names name) (sym (append-nil before)) ∙ none)
own_at header before written rest tail name next step behind (suc i) low none =
    behind i (omega arith) (ap (λ (names : Names). is_among names (slice_index_or rest i [])) (append_assoc before (name ∷ []) (take i rest)) ∙ none)

middle_is_among : (before rest : Names) (name : List ℕ) → is_among (before ++ name ∷ rest) name ≡ true
middle_is_among before rest name =
    list_any-append (str_eq_ignore_ascii_case name) before (name ∷ rest)
    ∙ (ap (λ (b : Bool). is_among before name || (b || is_among rest name)) (alike_laws.refl name) ∙ or-true (is_among before name))

rest_of : (repeated : Repeated) (before written rest names : Names) → length before ≡ length written → AreAlikeIn (before ++ rest) before written
    → fold (with_next repeated (before ++ rest)) (Ok written) rest ≡ Ok names → IsRest before written rest names
unfolding name_fault
rest_of repeated before written [] names size alike e =
    let g : ◌≡◌ {A = Result Names NamingRefused} (Ok written) (Ok names) = e in
    let same : written ≡ names = cc in
    record { tail = []; is = sym same ∙ sym (append-nil written); many = refl; lawful = λ h. refl; own = λ i low h. let no : ⊥ = omega arith in absurd no }
rest_of repeated before written (name ∷ rest) names size alike e =
    let header = before ++ name ∷ rest in
    let front : take (length written) header ≡ before = ap (λ (n : ℕ). take n header) (sym size) ∙ take-append_seam before (name ∷ rest) in
    let go : (o : Option (List ℕ)) → next_name repeated header written name ≡ o → fold (with_next repeated header) (with_name written o) rest ≡ Ok names
    → IsRest before written (name ∷ rest) names = λ o.
    elim o as (λ (o : Option (List ℕ)). next_name repeated header written name ≡ o → fold (with_next repeated header) (with_name written o) rest ≡ Ok names
    → IsRest before written (name ∷ rest) names) [
      | None ↦ λ is fault.
          let g : ◌≡◌ {A = Result Names NamingRefused} (Err (NoFreeName (length written + 1))) (Ok names) = sym (fold_err repeated header rest _) ∙ fault in
          cc
      | Some next ↦ λ is more.
          let step = next_is repeated header before written name next front alike (middle_is_among before rest name) is in
          let same : (before ++ name ∷ []) ++ rest ≡ header = append_assoc before (name ∷ []) rest in
          let behind = rest_of repeated (before ++ name ∷ []) (written ++ next ∷ []) rest names
          (length-append before (name ∷ []) ∙ (ap (λ (n : ℕ). n + 1) size ∙ sym (length-append written (next ∷ []))))
          (subst (λ (h : Names). AreAlikeIn h (before ++ name ∷ []) (written ++ next ∷ [])) (sym same) step.alike)
          (subst (λ (h : Names). fold (with_next repeated h) (Ok (written ++ next ∷ [])) rest ≡ Ok names) (sym same) more) in
          record {
            tail = next ∷ behind.tail;
            is = behind.is ∙ append_assoc written (next ∷ []) behind.tail;
            many = ap suc behind.many;
            lawful = λ h. fault_behind written behind.tail next (step.lawful (All-head (λ (n : List ℕ). is_name n ≡ true) name rest h)) step.fresh (behind.lawful (All-tail (λ (n : List ℕ). is_name n ≡ true) name rest h));
            own = own_at header before written rest behind.tail name next step behind.own;
          }
    ] in
    go (next_name repeated header written name) refl e

rest_of_all : (repeated : Repeated) (header names : Names) → renamed repeated header ≡ Ok names → IsRest [] [] header names
unfolding renamed
rest_of_all repeated header names e = rest_of repeated [] [] header names refl (λ x h. refl) e

kept_are_own : (header names : Names) → ◌≡◌ {A = Result Names NamingRefused} (Ok header) (Ok names) → header ≡ names
kept_are_own header names e = cc

pub as_many : (repeated : Repeated) (header names : Names) → written_names repeated header ≡ Ok names → length names ≡ length header
as_many Kept header names e = ap length (sym (kept_are_own header names e))
as_many Qualified header names e = let r = rest_of_all Qualified header names e in ap length r.is ∙ r.many
as_many (Suffixed suffix) header names e = let r = rest_of_all (Suffixed suffix) header names e in ap length r.is ∙ r.many

pub are_lawful : (repeated : Repeated) (header names : Names) → repeated ≢ Kept → All (λ n. is_name n ≡ true) header
    → written_names repeated header ≡ Ok names → name_fault [] names ≡ None
are_lawful Kept header names other lawful e = absurd (other refl)
are_lawful Qualified header names other lawful e = let r = rest_of_all Qualified header names e in ap (name_fault []) r.is ∙ r.lawful lawful
are_lawful (Suffixed suffix) header names other lawful e = let r = rest_of_all (Suffixed suffix) header names e in ap (name_fault []) r.is ∙ r.lawful lawful

pub are_own : (repeated : Repeated) (header names : Names) (column : ℕ) → written_names repeated header ≡ Ok names → column < length header
    → is_among (take column header) (slice_index_or header column []) ≡ false → slice_index_or names column [] ≡ slice_index_or header column []
are_own Kept header names column e low none = ap (λ (ns : Names). slice_index_or ns column []) (sym (kept_are_own header names e))
are_own Qualified header names column e low none =
    let r = rest_of_all Qualified header names e in ap (λ (ns : Names). slice_index_or ns column []) r.is ∙ r.own column low none
are_own (Suffixed suffix) header names column e low none =
    let r = rest_of_all (Suffixed suffix) header names e in ap (λ (ns : Names). slice_index_or ns column []) r.is ∙ r.own column low none

-- one number of marks more
pub marked_more : (repeated : Repeated) (name : List ℕ) (marks : ℕ) → marked repeated name (marks + 1) ≡ with_mark repeated (marked repeated name marks)
unfolding marked
marked_more repeated name marks = rw add-one refl

range_from : (a n : ℕ) → 0 < n → range_with_len a n ≡ a ∷ range_with_len (a + 1) (n - 1)
range_from a zero h = let no : ⊥ = omega arith in absurd no
range_from a (suc n) h = let same : n ≡ suc n - 1 = omega arith in ap (λ (k : ℕ). a ∷ range_with_len (a + 1) k) same

-- what is left of the search for a free name
unfoldable pub free_behind : Repeated → Names → Names → List ℕ → ℕ → Option (List ℕ)
free_behind repeated header written name marks = find (is_free header written) (map (marked repeated name) (range_with_len (marks + 1) (128 - marks)))

pub free_first : (repeated : Repeated) (header written : Names) (name : List ℕ) → free_name repeated header written name ≡ free_behind repeated header written name 0
unfolding free_name free_behind
free_first repeated header written name = refl

pub free_more : (repeated : Repeated) (header written : Names) (name : List ℕ) (marks : ℕ) → marks < 128
    → free_behind repeated header written name marks
    ≡ cond (is_free header written (marked repeated name (marks + 1))) (Some (marked repeated name (marks + 1))) (free_behind repeated header written name (marks + 1))
unfolding free_behind
free_more repeated header written name marks low =
    let less : 128 - marks - 1 ≡ 128 - (marks + 1) = omega arith in
    ap (λ (ns : List ℕ). find (is_free header written) (map (marked repeated name) ns)) (range_from (marks + 1) (128 - marks) (omega arith))
    ∙ ap (λ (n : ℕ). cond (is_free header written (marked repeated name (marks + 1))) (Some (marked repeated name (marks + 1)))
    (find (is_free header written) (map (marked repeated name) (range_with_len (marks + 1 + 1) n)))) less

pub free_none : (repeated : Repeated) (header written : Names) (name : List ℕ) (marks : ℕ) → 128 ≤ marks → free_behind repeated header written name marks ≡ None
unfolding free_behind
free_none repeated header written name marks high =
    let none : 128 - marks ≡ 0 = omega arith in ap (λ (n : ℕ). find (is_free header written) (map (marked repeated name) (range_with_len (marks + 1) n))) none

-- what is left of renaming a header
unfoldable pub renamed_behind : Repeated → Names → Names → ℕ → Result Names NamingRefused
renamed_behind repeated header written column = fold (with_next repeated header) (Ok written) (drop column header)

pub renamed_first : (repeated : Repeated) (header : Names) → renamed repeated header ≡ renamed_behind repeated header [] 0
unfolding renamed renamed_behind
renamed_first repeated header = refl

pub renamed_more : (repeated : Repeated) (header written : Names) (column : ℕ) (next : List ℕ) → column < length header
    → next_name repeated header written (slice_index_or header column []) ≡ Some next
    → renamed_behind repeated header written column ≡ renamed_behind repeated header (written ++ next ∷ []) (column + 1)
unfolding renamed_behind
renamed_more repeated header written column next low is =
    ap (fold (with_next repeated header) (Ok written)) (drop-cons header column [] low)
    ∙ (ap (λ (o : Option (List ℕ)). fold (with_next repeated header) (with_name written o) (drop (suc column) header)) is
    ∙ ap (λ (n : ℕ). fold (with_next repeated header) (Ok (written ++ next ∷ [])) (drop n header)) (sym (add-one column)))

pub renamed_fault : (repeated : Repeated) (header written : Names) (column : ℕ) → column < length header
    → next_name repeated header written (slice_index_or header column []) ≡ None
    → renamed_behind repeated header written column ≡ Err (NoFreeName (length written + 1))
unfolding renamed_behind
renamed_fault repeated header written column low is =
    ap (fold (with_next repeated header) (Ok written)) (drop-cons header column [] low)
    ∙ (ap (λ (o : Option (List ℕ)). fold (with_next repeated header) (with_name written o) (drop (suc column) header)) is
    ∙ fold_err repeated header (drop (suc column) header) (NoFreeName (length written + 1)))

pub renamed_all : (repeated : Repeated) (header written : Names) (column : ℕ) → length header ≤ column → renamed_behind repeated header written column ≡ Ok written
unfolding renamed_behind
renamed_all repeated header written column high = ap (fold (with_next repeated header) (Ok written)) (drop_all column header high)

abbrev pub IsName : List ℕ → Type 0
IsName n = is_name n ≡ true

-- names without a fault are names
names_are : (seen names : Names) → name_fault seen names ≡ None → All IsName names
unfolding name_fault
names_are seen [] h = All-nil IsName
names_are seen (name ∷ names) h =
    let rest : Option BuildRefused = name_fault (seen ++ name ∷ []) names in
    let choose : Bool → Bool → Option BuildRefused = λ good again.
    if not good then Some (refused.BadName (length seen + 1)) else if again then Some (refused.RepeatedName (length seen + 1)) else rest in
    let at : choose (is_name name) (is_among seen name) ≡ None = h in
    elim (cases_Bool (is_name name)) [
      | inl good ↦ elim (cases_Bool (is_among seen name)) [
        | inl again ↦ let g : ◌≡◌ {A = Option BuildRefused} (Some (refused.RepeatedName (length seen + 1))) None = sym (ap (choose true) again) ∙ (sym (ap (λ (b : Bool). choose b (is_among seen name)) good) ∙ at) in cc
        | inr fresh ↦ All-cons IsName name names good (names_are (seen ++ name ∷ []) names (sym (ap (choose true) fresh) ∙ (sym (ap (λ (b : Bool). choose b (is_among seen name)) good) ∙ at)))
      ]
      | inr bad ↦ let g : ◌≡◌ {A = Option BuildRefused} (Some (refused.BadName (length seen + 1))) None = sym (ap (λ (b : Bool). choose b (is_among seen name)) bad) ∙ at in cc
    ]

name_there : (t : TableValue) (column : ℕ) → HasLawfulNames t → column < length t.types → IsName (slice_index_or t.names column [])
name_there t column lawful low = All-get_or IsName t.names column [] (rw lawful.1 low) (names_are [] t.names lawful.0)

origin_named : (l r : TableValue) → HasLawfulNames l → HasLawfulNames r → (o : Origin) → IsColumnOf l r o → IsName (name_of l r o)
origin_named l r left right (Coalesced a b) h = name_there l a left h.0
origin_named l r left right (Left a) h = name_there l a left h
origin_named l r left right (Right b) h = name_there r b right h

-- the names of a joined table's columns are names
pub header_named : (join : BoundJoin) (l r : TableValue) → fits join l.types r.types ≡ true → HasLawfulNames l → HasLawfulNames r → All IsName (header_of join l r)
header_named join l r bound left right =
    All-map IsName (name_of l r) (columns_of join r)
    (All-weaker (IsColumnOf l r) (λ (o : Origin). IsName (name_of l r o)) (origin_named l r left right) (columns_of join r) (columns-there join l r bound))

-- and so are those of the columns that are chosen
pub chosen_named : (choice : Choice) (join : BoundJoin) (l r : TableValue) → fits join l.types r.types ≡ true → HasLawfulNames l → HasLawfulNames r → All IsName (chosen_header choice join l r)
chosen_named choice join l r bound left right =
    All-map IsName (name_of l r) (chosen_columns choice join l r)
    (All-weaker (IsColumnOf l r) (λ (o : Origin). IsName (name_of l r o)) (origin_named l r left right) (chosen_columns choice join l r) (chosen-columns-there choice join l r bound))

among_from : {X : Type 0} (f : X → List ℕ) (names : List X) (name : List ℕ) (i : ℕ) (d : X) → i < length names
    → is_among (map f (drop i names)) name ≡ (str_eq_ignore_ascii_case name (f (slice_index_or names i d)) || is_among (map f (drop (i + 1) names)) name)
among_from f names name i d low =
    ap (λ xs. is_among (map f xs) name) (drop-cons names i d low)
    ∙ ap (λ (n : ℕ). str_eq_ignore_ascii_case name (f (slice_index_or names i d)) || is_among (map f (drop n names)) name) (sym (add-one i))

-- the name at a place is like this one
pub among_here : {X : Type 0} (f : X → List ℕ) (names : List X) (name : List ℕ) (i : ℕ) (d : X) → i < length names
    → str_eq_ignore_ascii_case name (f (slice_index_or names i d)) ≡ true → is_among (map f names) name ≡ is_among (map f (drop i names)) name
    → true ≡ is_among (map f names) name
among_here f names name i d low same left =
    sym (left ∙ (among_from f names name i d low ∙ ap (λ (b : Bool). b || is_among (map f (drop (i + 1) names)) name) same))

-- it isn't
pub among_behind : {X : Type 0} (f : X → List ℕ) (names : List X) (name : List ℕ) (i : ℕ) (d : X) → i < length names
    → str_eq_ignore_ascii_case name (f (slice_index_or names i d)) ≡ false → is_among (map f names) name ≡ is_among (map f (drop i names)) name
    → is_among (map f names) name ≡ is_among (map f (drop (i + 1) names)) name
among_behind f names name i d low other left =
    left ∙ (among_from f names name i d low ∙ ap (λ (b : Bool). b || is_among (map f (drop (i + 1) names)) name) other)

-- the next name is the header's own one, or where that stands before already a free one
pub next_chosen : (repeated : Repeated) (header written : Names) (name : List ℕ) (again : Bool) → is_among (take (length written) header) name ≡ again
    → next_name repeated header written name ≡ (if again then free_name repeated header written name else Some name)
next_chosen repeated header written name again is = ap (λ (b : Bool). if b then free_name repeated header written name else Some name) is

pub marked_none : (repeated : Repeated) (name : List ℕ) → marked repeated name 0 ≡ name
unfolding marked
marked_none repeated name = refl

-- one mark more is tried
pub free_step : (repeated : Repeated) (header written : Names) (name next : List ℕ) (marks : ℕ) (free : Bool) → marks < 128
    → next ≡ marked repeated name (marks + 1) → free ≡ is_free header written next
    → free_behind repeated header written name marks ≡ (if free then Some next else free_behind repeated header written name (marks + 1))
free_step repeated header written name next marks free low is test =
    free_more repeated header written name marks low
    ∙ (ap (λ (n : List ℕ). cond (is_free header written n) (Some n) (free_behind repeated header written name (marks + 1))) (sym is)
    ∙ ap (λ (b : Bool). cond b (Some next) (free_behind repeated header written name (marks + 1))) (sym test))

pub next_marked : (repeated : Repeated) (name before text next : List ℕ) (marks : ℕ) → before ≡ marked repeated name marks → text ≡ before
    → next ≡ with_mark repeated text → next ≡ marked repeated name (marks + 1)
next_marked repeated name before text next marks at same is = is ∙ (ap (with_mark repeated) (same ∙ at) ∙ sym (marked_more repeated name marks))

pub name_by_length : (text : List ℕ) → IsUtf8 text → 0 < length text → nat_le (length text) 128 ≡ is_name text
name_by_length text utf8 some = rw (lt-ltb 0 (length text) some, is_utf8-from_IsUtf8 text utf8) (sym (and-true (nat_le (length text) 128)))
