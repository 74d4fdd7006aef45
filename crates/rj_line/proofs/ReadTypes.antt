-- The types that the columns of a table get by the lines of their own names.
use Rattle.std.proofs.Common.{◌≡◌, ◌≢◌, ◌∙◌, ◌+◌, ◌++◌, ◌∷◌, [], ℕ, Bool, List, Option, Some, None, true, false, cond, inl, inr, refl, sym, ap, arith, not, append_assoc, length, length-append, true≢false}
use Rattle.std.specs.Prelude.{◌&&◌, ◌||◌}
use Rattle.std.specs.List.{cons_option, filter_map, list_any}
use Rattle.std.specs.Str.{str_eq_ignore_ascii_case, str_to_ascii_lowercase}
use Rattle.std.proofs.lemmas.Bool.{and_parts, or_parts, cases_Bool}
use Rattle.std.proofs.lemmas.Slice.Eq.{bytes_eq-Decides}
use Rattle.rj_columns.specs.declared.cell.ColumnType.{ColumnType}
use Rattle.rj_columns.specs.declared.refused.BuildRefused.{BuildRefused}
use Rattle.rj_columns.specs.declared.refused.BuildRefused.TheVariants as refused
use Rattle.rj_columns.specs.Names.{is_name, name_fault}
use Rattle.rj_condition.specs.Names.{matches}
use Rattle.rj_condition.specs.declared.tree.Name.{Name}
use Rattle.rj_settings.specs.Columns as columns
use Rattle.rj_settings.specs.Columns.{first_kind, kind_of, label_fault, name_fault_behind, names, or_else, types_under}
use Rattle.rj_settings.specs.declared.types.entry.TypeEntry.{TypeEntry}
use Rattle.rj_settings.specs.Lists.{IsTypeList, is_rest}
use Rattle.rj_settings.proofs.NameFacts.{not_empty}
use Rattle.rj_line.specs.Listed.{list_in}
use Rattle.rj_line.specs.Suggested.{column_lines, entries_of, entry_of, is_identifier}
use Rattle.rj_line.proofs.ReadBack.{AreSome, is_list}

abbrev low : List ℕ → List ℕ
low = str_to_ascii_lowercase

abbrev a_name : List ℕ → Bool → Name
a_name text delimited = record { text = text; delimited = delimited }

-- a name that means a column is its name, but for case
lower_same : (m n : List ℕ) (d : Bool) → matches (a_name m d) n ≡ true → str_eq_ignore_ascii_case n m ≡ true
lower_same m n true e = (bytes_eq-Decides (low n) (low m)).1 (ap low (sym ((bytes_eq-Decides m n).0 e)))
lower_same m n false e = (bytes_eq-Decides (low n) (low m)).1 (sym ((bytes_eq-Decides (low m) (low n)).0 e))

means_own : (n : List ℕ) (d : Bool) → matches (a_name n d) n ≡ true
means_own n true = (bytes_eq-Decides n n).1 refl
means_own n false = (bytes_eq-Decides (low n) (low n)).1 refl

not_own : (m n : List ℕ) (d : Bool) → str_eq_ignore_ascii_case n m ≡ false → matches (a_name m d) n ≡ false
not_own m n d other = elim (cases_Bool (matches (a_name m d) n)) [
  | inl h ↦ absurd (true≢false (sym (lower_same m n d h) ∙ other))
  | inr h ↦ h
]

-- no entry of other names names a column
unseen : (seen : List (List ℕ)) (kinds : List ColumnType) (n : List ℕ) → list_any (str_eq_ignore_ascii_case n) seen ≡ false
    → list_any (λ e. names n e.label) (entries_of seen kinds) ≡ false
unseen [] kinds n other = refl
unseen (m ∷ seen) [] n other = refl
unseen (m ∷ seen) (k ∷ kinds) n other =
    let h = or_parts (str_eq_ignore_ascii_case n m) (list_any (str_eq_ignore_ascii_case n) seen) other in
    ap (λ (t : Bool). t || list_any (λ e. names n e.label) (entries_of seen kinds)) (not_own m n (not (is_identifier m)) h.0) ∙ unseen seen kinds n h.1

-- its own type is the first that names it
own_kind : (seen more : List (List ℕ)) (before after : List ColumnType) (n : List ℕ) (k : ColumnType) → length before ≡ length seen → list_any (str_eq_ignore_ascii_case n) seen ≡ false
    → first_kind (names n) (entries_of (seen ++ n ∷ more) (before ++ k ∷ after)) ≡ Some k
own_kind [] more [] after n k same other =
    ap (λ (t : Bool). cond t (Some k) (first_kind (names n) (entries_of more after))) (means_own n (not (is_identifier n)))
own_kind [] more (j ∷ before) after n k same other = absurd (omega (arith, same))
own_kind (m ∷ seen) more [] after n k same other = absurd (omega (arith, same))
own_kind (m ∷ seen) more (j ∷ before) after n k same other =
    let h = or_parts (str_eq_ignore_ascii_case n m) (list_any (str_eq_ignore_ascii_case n) seen) other in
    ap (λ (t : Bool). cond t (Some j) (first_kind (names n) (entries_of (seen ++ n ∷ more) (before ++ k ∷ after)))) (not_own m n (not (is_identifier m)) h.0)
    ∙ own_kind seen more before after n k (omega (arith, same)) h.1

-- a lawful name is new, and those behind it are lawful
record IsNew (seen : List (List ℕ)) (n : List ℕ) (more : List (List ℕ)) : Type 0 where
  name : is_name n ≡ true
  other : list_any (str_eq_ignore_ascii_case n) seen ≡ false
  rest : name_fault (seen ++ n ∷ []) more ≡ None

fault_parts : (bad again : Bool) (place : ℕ) (rest : Option BuildRefused) → cond bad (Some (refused.BadName place)) (cond again (Some (refused.RepeatedName place)) rest) ≡ None
    → (bad ≡ false) × (again ≡ false) × (rest ≡ None)
fault_parts true again place rest e = cc
fault_parts false true place rest e = cc
fault_parts false false place rest e = (refl, refl, e)

no_false : (t : Bool) → not t ≡ false → t ≡ true
no_false true e = refl
no_false false e = cc

is_new : (seen : List (List ℕ)) (n : List ℕ) (more : List (List ℕ)) → name_fault seen (n ∷ more) ≡ None → IsNew seen n more
unfolding name_fault
is_new seen n more e =
    let p = fault_parts (not (is_name n)) (list_any (str_eq_ignore_ascii_case n) seen) (length seen + 1) (name_fault (seen ++ n ∷ []) more) e in
    record { name = no_false (is_name n) p.0; other = p.1; rest = p.2 }

are_some : (seen all : List (List ℕ)) → name_fault seen all ≡ None → AreSome all
are_some seen [] lawful = tt
are_some seen (n ∷ all) lawful =
    let new = is_new seen n all lawful in
    (not_empty n (and_parts _ _ (and_parts _ _ new.name).0).0, are_some (seen ++ n ∷ []) all new.rest)

one_longer : {A B : Type 0} (xs : List A) (ys : List B) (x : A) (y : B) → length xs ≡ length ys → length (xs ++ x ∷ []) ≡ length (ys ++ y ∷ [])
one_longer xs ys x y same = omega (arith, same, length-append xs (x ∷ []), length-append ys (y ∷ []))

types_found : (seen all : List (List ℕ)) (before kinds : List ColumnType) → length before ≡ length seen → length kinds ≡ length all → name_fault seen all ≡ None
    → filter_map (kind_of (entries_of (seen ++ all) (before ++ kinds))) all ≡ kinds
types_found seen [] before [] one two lawful = refl
types_found seen [] before (k ∷ kinds) one two lawful = absurd (omega (arith, two))
types_found seen (n ∷ all) before [] one two lawful = absurd (omega (arith, two))
types_found seen (n ∷ all) before (k ∷ kinds) one two lawful =
    let new = is_new seen n all lawful in
    let es = entries_of (seen ++ n ∷ all) (before ++ k ∷ kinds) in
    let later : entries_of ((seen ++ n ∷ []) ++ all) ((before ++ k ∷ []) ++ kinds) ≡ es =
    ap (λ (x : List (List ℕ)). entries_of x ((before ++ k ∷ []) ++ kinds)) (append_assoc seen (n ∷ []) all) ∙ ap (λ (x : List ColumnType). entries_of (seen ++ n ∷ all) x) (append_assoc before (k ∷ []) kinds) in
    ap (λ (o : Option ColumnType). cons_option (or_else o (first_kind is_rest es)) (filter_map (kind_of es) all)) (own_kind seen all before kinds n k one new.other)
    ∙ ap (λ (x : List ColumnType). k ∷ x)
    (ap (λ (x : List TypeEntry). filter_map (kind_of x) all) (sym later)
    ∙ types_found (seen ++ n ∷ []) all (before ++ k ∷ []) kinds (one_longer before seen k n one) (omega (arith, two)) new.rest)

pub own_types : (all : List (List ℕ)) (kinds : List ColumnType) → all ≢ [] → length kinds ≡ length all → name_fault [] all ≡ None → types_under (entries_of all kinds) all ≡ kinds
own_types [] kinds some two lawful = absurd (some refl)
own_types (n ∷ all) [] some two lawful = absurd (omega (arith, two))
own_types (n ∷ all) (k ∷ kinds) some two lawful = types_found [] (n ∷ all) [] (k ∷ kinds) refl two lawful

-- each name means its column, which no earlier one names
any_middle : (p : List ℕ → Bool) (seen more : List (List ℕ)) (n : List ℕ) → p n ≡ true → list_any p (seen ++ n ∷ more) ≡ true
any_middle p [] more n e = ap (λ (t : Bool). t || list_any p more) e
any_middle p (m ∷ seen) more n e = ap (λ (t : Bool). p m || t) (any_middle p seen more n e) ∙ or_true (p m)
  where
    or_true : (t : Bool) → (t || true) ≡ true
    or_true true = refl
    or_true false = refl

entries_more : (seen : List (List ℕ)) (before : List ColumnType) (n : List ℕ) (k : ColumnType) → length before ≡ length seen
    → entries_of seen before ++ entry_of n k ∷ [] ≡ entries_of (seen ++ n ∷ []) (before ++ k ∷ [])
entries_more [] [] n k same = refl
entries_more [] (j ∷ before) n k same = absurd (omega (arith, same))
entries_more (m ∷ seen) [] n k same = absurd (omega (arith, same))
entries_more (m ∷ seen) (j ∷ before) n k same = ap (λ (x : List TypeEntry). entry_of m j ∷ x) (entries_more seen before n k (omega (arith, same)))

no_fault_behind : (seen all : List (List ℕ)) (before kinds : List ColumnType) → length before ≡ length seen → length kinds ≡ length all → name_fault seen all ≡ None
    → name_fault_behind (entries_of seen before) (entries_of all kinds) (seen ++ all) ≡ None
no_fault_behind seen [] before kinds one two lawful = refl
no_fault_behind seen (n ∷ all) before [] one two lawful = refl
no_fault_behind seen (n ∷ all) before (k ∷ kinds) one two lawful =
    let new = is_new seen n all lawful in
    let d = not (is_identifier n) in
    let passes : List ℕ → Bool = λ called. matches (a_name n d) called && not (list_any (λ e. names called e.label) (entries_of seen before)) in
    let own : passes n ≡ true = ap (λ (t : Bool). t && not (list_any (λ e. names n e.label) (entries_of seen before))) (means_own n d) ∙ ap not (unseen seen before n new.other) in
    let rest = name_fault_behind (entries_of seen before ++ entry_of n k ∷ []) (entries_of all kinds) (seen ++ n ∷ all) in
    ap (λ (t : Bool). or_else (cond t None (Some n)) rest) (any_middle passes seen all n own)
    ∙ (ap (λ (x : List TypeEntry). name_fault_behind x (entries_of all kinds) (seen ++ n ∷ all)) (entries_more seen before n k one)
    ∙ (ap (λ (x : List (List ℕ)). name_fault_behind (entries_of (seen ++ n ∷ []) (before ++ k ∷ [])) (entries_of all kinds) x) (sym (append_assoc seen (n ∷ []) all))
    ∙ no_fault_behind (seen ++ n ∷ []) all (before ++ k ∷ []) kinds (one_longer before seen k n one) (omega (arith, two)) new.rest))

pub no_fault : (all : List (List ℕ)) (kinds : List ColumnType) → length kinds ≡ length all → name_fault [] all ≡ None → columns.name_fault (entries_of all kinds) all ≡ None
no_fault all kinds two lawful = no_fault_behind [] all [] kinds refl two lawful

pub lines_list : (all : List (List ℕ)) (kinds : List ColumnType) → all ≢ [] → length kinds ≡ length all → name_fault [] all ≡ None
    → IsTypeList (list_in (column_lines all kinds)) (entries_of all kinds)
lines_list all kinds some two lawful = is_list all kinds some (are_some [] all lawful) two
