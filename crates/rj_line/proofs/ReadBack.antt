-- The lines of a list by name, read back as a list of types.
use Rattle.std.proofs.Common.{◌≡◌, ◌≢◌, ◌∙◌, ◌<◌, ◌+◌, ◌++◌, ◌∷◌, [], ℕ, Bool, List, Option, Some, None, true, false, cond, inl, inr, refl, sym, ap, arith, not, codes, append_assoc, length, zero-add}
use Rattle.std.specs.Prelude.{◌==◌, ◌&&◌, ◌||◌, nat_le}
use Rattle.std.specs.Char.{is_ascii_alphabetic, is_ascii_digit}
use Rattle.std.specs.Fmt.{decimal}
use Rattle.std.specs.List.{count_by, list_all}
use Rattle.std.specs.Option.{option_to_list}
use Rattle.std.proofs.lemmas.Bool.{and_parts, cases_Bool}
use Rattle.std.proofs.lemmas.Bool.Decides.{nat_tests}
use Rattle.std.proofs.lemmas.List.{append-nil}
use Rattle.std.proofs.lemmas.List.Sums.{sum_by-cons}
use Rattle.rj_columns.specs.declared.cell.ColumnType.{ColumnType}
use Rattle.rj_columns.specs.declared.cell.ColumnType.TheVariants as kind
use Rattle.rj_condition.specs.Tokens.{doubled, in_quotes, is_name_byte}
use Rattle.rj_settings.specs.Labels.{IsNameWord, is_regular}
use Rattle.rj_settings.specs.Lists.{AreEntries, BeginsEntry, IsEntry, IsTypeList, are_alike, is_place, is_rest}
use Rattle.rj_settings.specs.Words.{IsTypeWord, begin_word, end_word}
use Rattle.rj_settings.specs.declared.types.entry.TypeEntry.{TypeEntry}
use Rattle.rj_settings.proofs.NumberFacts.{small_pass}
use Rattle.rj_line.specs.Listed.{in_list, list_from, list_in, outside_quotes, quoted_behind}
use Rattle.rj_line.specs.Suggested.{column_line, column_lines, entries_of, entry_of, is_identifier, name_text, type_word}

-- a byte that is none of LF, CR and the double quote
abbrev is_plain : ℕ → Bool
is_plain b = not (b == 10) && (not (b == 13) && not (b == 34))

list_more : (quoted : Bool) (b : ℕ) (bs : List ℕ) → list_from quoted (b ∷ bs) ≡ option_to_list (in_list quoted b bs) ++ list_from (quoted_behind quoted b) bs
unfolding list_from
list_more quoted b bs = refl

list_end : (quoted : Bool) → list_from quoted [] ≡ []
unfolding list_from
list_end quoted = refl

no_true : (t : Bool) → not t ≡ true → t ≡ false
no_true true e = cc
no_true false e = refl

-- outside quotes such a byte stands for itself, whatever follows it, and so does a double quote
shown : (b : ℕ) (rest : List ℕ) → (b == 10) ≡ false → (b == 13) ≡ false → outside_quotes b rest ≡ Some b
shown b [] lf cr = ap (λ (t : Bool). cond t None (Some b)) lf
shown b (next ∷ rest) lf cr =
    ap (λ (t : Bool). cond t (Some 44) (cond ((b == 13) && (next == 10)) None (Some b))) lf ∙ ap (λ (t : Bool). cond (t && (next == 10)) None (Some b)) cr

plain_word : (word rest : List ℕ) → list_all is_plain word ≡ true → list_from false (word ++ rest) ≡ word ++ list_from false rest
plain_word [] rest e = refl
plain_word (b ∷ word) rest e =
    let h = and_parts (is_plain b) (list_all is_plain word) e in
    let parts = and_parts (not (b == 10)) (not (b == 13) && not (b == 34)) h.0 in
    let more = and_parts (not (b == 13)) (not (b == 34)) parts.1 in
    list_more false b (word ++ rest)
    ∙ (ap (λ (o : Option ℕ). option_to_list o ++ list_from (quoted_behind false b) (word ++ rest)) (shown b (word ++ rest) (no_true (b == 10) parts.0) (no_true (b == 13) more.0))
    ∙ (ap (λ (t : Bool). b ∷ list_from (cond t true false) (word ++ rest)) (no_true (b == 34) more.1) ∙ ap (λ (l : List ℕ). b ∷ l) (plain_word word rest h.1)))

quote_shown : (rest : List ℕ) → list_from false (34 ∷ rest) ≡ 34 ∷ list_from true rest
quote_shown rest = list_more false 34 rest ∙ ap (λ (o : Option ℕ). option_to_list o ++ list_from true rest) (shown 34 rest refl refl)

-- between double quotes each byte does
quoted_word : (name rest : List ℕ) → list_from true (doubled 34 name ++ 34 ∷ rest) ≡ doubled 34 name ++ 34 ∷ list_from false rest
quoted_word [] rest = list_more true 34 rest
quoted_word (b ∷ name) rest =
    let behind = doubled 34 name ++ 34 ∷ rest in
    let left = doubled 34 name ++ 34 ∷ list_from false rest in
    elim (cases_Bool (b == 34)) [
      | inl h ↦
          let is : doubled 34 (b ∷ name) ≡ 34 ∷ 34 ∷ doubled 34 name = ap (λ (t : Bool). cond t (34 ∷ 34 ∷ doubled 34 name) (b ∷ doubled 34 name)) h in
          ap (λ (l : List ℕ). list_from true (l ++ 34 ∷ rest)) is
          ∙ (list_more true 34 (34 ∷ behind) ∙ (ap (λ (l : List ℕ). 34 ∷ l) (quote_shown behind) ∙ (ap (λ (l : List ℕ). 34 ∷ 34 ∷ l) (quoted_word name rest)
          ∙ sym (ap (λ (l : List ℕ). l ++ 34 ∷ list_from false rest) is))))
      | inr h ↦
          let is : doubled 34 (b ∷ name) ≡ b ∷ doubled 34 name = ap (λ (t : Bool). cond t (34 ∷ 34 ∷ doubled 34 name) (b ∷ doubled 34 name)) h in
          ap (λ (l : List ℕ). list_from true (l ++ 34 ∷ rest)) is
          ∙ (list_more true b behind ∙ (ap (λ (t : Bool). b ∷ list_from (cond t false true) behind) h ∙ (ap (λ (l : List ℕ). b ∷ l) (quoted_word name rest)
          ∙ sym (ap (λ (l : List ℕ). l ++ 34 ∷ list_from false rest) is))))
    ]

letter_plain : (b : ℕ) → is_name_byte b ≡ true → is_plain b ≡ true
letter_plain b e = grind (arith, nat_tests)

names_plain : (word : List ℕ) → list_all is_name_byte word ≡ true → list_all is_plain word ≡ true
names_plain [] e = refl
names_plain (b ∷ word) e =
    let h = and_parts (is_name_byte b) (list_all is_name_byte word) e in
    ap (λ (t : Bool). t && list_all is_plain word) (letter_plain b h.0) ∙ names_plain word h.1

first_letter : (b : ℕ) → is_ascii_alphabetic b ≡ true → (is_name_byte b ≡ true) × (not (is_ascii_digit b) ≡ true)
first_letter b e = (grind (arith, nat_tests), grind (arith, nat_tests))

-- an identifier is a regular name
regular : (name : List ℕ) → is_identifier name ≡ true → (list_all is_name_byte name ≡ true) × (is_regular name ≡ true)
regular [] e = cc
regular (b ∷ name) e =
    let h = and_parts (is_ascii_alphabetic b) (list_all is_name_byte name) e in
    let f = first_letter b h.0 in
    let all : list_all is_name_byte (b ∷ name) ≡ true = ap (λ (t : Bool). t && list_all is_name_byte name) f.0 ∙ h.1 in
    (all, ap (λ (t : Bool). t && list_all is_name_byte (b ∷ name)) f.1 ∙ all)

name_shown : (name rest : List ℕ) → list_from false (name_text name ++ rest) ≡ name_text name ++ list_from false rest
name_shown name rest = elim (cases_Bool (is_identifier name)) [
  | inl h ↦
      let is : name_text name ≡ name = ap (λ (t : Bool). cond t name (in_quotes 34 name)) h in
      ap (λ (l : List ℕ). list_from false (l ++ rest)) is
      ∙ (plain_word name rest (names_plain name (regular name h).0) ∙ sym (ap (λ (l : List ℕ). l ++ list_from false rest) is))
  | inr h ↦
      let is : name_text name ≡ in_quotes 34 name = ap (λ (t : Bool). cond t name (in_quotes 34 name)) h in
      ap (λ (l : List ℕ). list_from false (l ++ rest)) is
      ∙ (ap (λ (l : List ℕ). list_from false (34 ∷ l)) (append_assoc (doubled 34 name) (34 ∷ []) rest)
      ∙ (quote_shown (doubled 34 name ++ 34 ∷ rest)
      ∙ (ap (λ (l : List ℕ). 34 ∷ l) (quoted_word name rest ∙ sym (append_assoc (doubled 34 name) (34 ∷ []) (list_from false rest)))
      ∙ sym (ap (λ (l : List ℕ). l ++ list_from false rest) is))))
]

all_more : (a b : List ℕ) → list_all is_plain a ≡ true → list_all is_plain b ≡ true → list_all is_plain (a ++ b) ≡ true
all_more [] b one two = two
all_more (x ∷ a) b one two =
    let h = and_parts (is_plain x) (list_all is_plain a) one in
    ap (λ (t : Bool). t && list_all is_plain (a ++ b)) h.0 ∙ all_more a b h.1 two

number_plain : (n : ℕ) → n < 100 → list_all is_plain (decimal n) ≡ true
number_plain n less = small_pass is_plain each n less
  where
    each : (d : ℕ) → d < 10 → is_plain (48 + d) ≡ true
    each d low = grind (arith, nat_tests)

type_plain : (k : ColumnType) → list_all is_plain (type_word k) ≡ true
type_plain kind.Int = refl
type_plain kind.Text = refl
type_plain (kind.Num n) =
    all_more (begin_word n.precision) (codes "," ++ end_word n.scale)
    (all_more (codes "num(") (decimal n.precision) refl (number_plain n.precision (omega (arith, n.limits))))
    (all_more (codes ",") (end_word n.scale) refl (all_more (decimal n.scale) (codes ")") (number_plain n.scale (omega (arith, n.limits))) refl))

-- an entry, as it stands before the end of its line
abbrev entry_text : List ℕ → ColumnType → List ℕ
entry_text name k = name_text name ++ 61 ∷ type_word k

line_is : (name : List ℕ) (k : ColumnType) (more : List ℕ) → column_line name k ++ more ≡ name_text name ++ (61 ∷ (type_word k ++ (10 ∷ more)))
line_is name k more =
    append_assoc (name_text name) (61 ∷ (type_word k ++ 10 ∷ [])) more ∙ ap (λ (l : List ℕ). name_text name ++ 61 ∷ l) (append_assoc (type_word k) (10 ∷ []) more)

line_shown : (name : List ℕ) (k : ColumnType) (more : List ℕ) → list_from false (column_line name k ++ more) ≡ entry_text name k ++ list_from false (10 ∷ more)
line_shown name k more =
    ap (list_from false) (line_is name k more)
    ∙ (name_shown name (61 ∷ (type_word k ++ (10 ∷ more)))
    ∙ (ap (λ (l : List ℕ). name_text name ++ l) (plain_word (61 ∷ type_word k) (10 ∷ more) (type_plain k)) ∙ sym (append_assoc (name_text name) (61 ∷ type_word k) (list_from false (10 ∷ more)))))

last_shown : list_from false (10 ∷ []) ≡ []
last_shown = list_more false 10 [] ∙ list_end false

comma_shown : (more : List ℕ) → more ≢ [] → list_from false (10 ∷ more) ≡ 44 ∷ list_from false more
comma_shown [] some = absurd (some refl)
comma_shown (b ∷ more) some = list_more false 10 (b ∷ more)

some_line : (name : List ℕ) (k : ColumnType) (more : List ℕ) → column_line name k ++ more ≢ []
some_line name k more is = behind (name_text name) (type_word k ++ (10 ∷ more)) (sym (line_is name k more) ∙ is)
  where
    behind : (front back : List ℕ) → front ++ 61 ∷ back ≡ [] → ⊥
    behind [] back e = cc
    behind (x ∷ front) back e = cc

-- each entry is that of its column
named : (name : List ℕ) → name ≢ [] → IsNameWord (not (is_identifier name)) name (name_text name)
named name some = go (is_identifier name) refl
  where
    go : (b : Bool) → is_identifier name ≡ b → IsNameWord (not b) name (cond b name (in_quotes 34 name))
    go true is = (refl, (regular name is).1)
    go false is = (refl, some)

typed : (k : ColumnType) → IsTypeWord k (type_word k)
typed kind.Int = refl
typed (kind.Num n) = inl refl
typed kind.Text = refl

is_entry : (name : List ℕ) (k : ColumnType) → name ≢ [] → IsEntry (entry_of name k) (entry_text name k)
is_entry name k some = (name_text name ++ codes "=", type_word k, (name_text name, named name some, refl), typed k, sym (append_assoc (name_text name) (61 ∷ []) (type_word k)))

begins_last : (name : List ℕ) (k : ColumnType) → name ≢ [] → BeginsEntry (entry_of name k) (list_from false (column_line name k ++ [])) None
begins_last name k some =
    (entry_text name k, is_entry name k some, line_shown name k [] ∙ (ap (λ (l : List ℕ). entry_text name k ++ l) last_shown ∙ append-nil (entry_text name k)))

begins_more : (name : List ℕ) (k : ColumnType) (more : List ℕ) → name ≢ [] → more ≢ [] → BeginsEntry (entry_of name k) (list_from false (column_line name k ++ more)) (Some (list_from false more))
begins_more name k more some else_ =
    (entry_text name k, is_entry name k some, line_shown name k more ∙ ap (λ (l : List ℕ). entry_text name k ++ l) (comma_shown more else_))

-- no name is empty
abbrev pub AreSome : List (List ℕ) → Type 0
AreSome [] = Unit {0}
AreSome (name ∷ names) = (name ≢ []) × AreSome names

are_entries : (names : List (List ℕ)) (kinds : List ColumnType) → names ≢ [] → AreSome names → length kinds ≡ length names
    → AreEntries (entries_of names kinds) (Some (list_in (column_lines names kinds)))
are_entries [] kinds some each same = absurd (some refl)
are_entries (name ∷ names) [] some each same = absurd (omega (arith, same))
are_entries (name ∷ []) (k ∷ []) some each same = (None, begins_last name k each.0, tt)
are_entries (name ∷ []) (k ∷ l ∷ kinds) some each same = absurd (omega (arith, same))
are_entries (name ∷ next ∷ names) (k ∷ []) some each same = absurd (omega (arith, same))
are_entries (name ∷ next ∷ names) (k ∷ l ∷ kinds) some each same =
    let more = column_lines (next ∷ names) (l ∷ kinds) in (
      Some (list_from false more),
      begins_more name k more each.0 (some_line next l (column_lines names kinds)),
      are_entries (next ∷ names) (l ∷ kinds) (λ e. cc) each.1 (omega (arith, same)),
    )

-- all by name
none_of : (p : TypeEntry → Bool) → ((name : List ℕ) (k : ColumnType) → p (entry_of name k) ≡ false) → (names : List (List ℕ)) (kinds : List ColumnType)
    → count_by p (entries_of names kinds) ≡ 0
none_of p never [] kinds = refl
none_of p never (name ∷ names) [] = refl
none_of p never (name ∷ names) (k ∷ kinds) =
    sum_by-cons (λ (e : TypeEntry). cond (p e) 1 0) (entry_of name k) (entries_of names kinds)
    ∙ (ap (λ (t : Bool). cond t 1 0 + count_by p (entries_of names kinds)) (never name k) ∙ (zero-add (count_by p (entries_of names kinds)) ∙ none_of p never names kinds))

or_true : (t : Bool) → (t || true) ≡ true
or_true true = refl
or_true false = refl

alike : (names : List (List ℕ)) (kinds : List ColumnType) → are_alike (entries_of names kinds) ≡ true
alike names kinds =
    let es = entries_of names kinds in
    ap (λ (n : ℕ). n == length es || (n == 0 && nat_le (count_by (λ e. is_rest e.label) es) 1)) (none_of (λ e. is_place e.label) (λ name k. refl) names kinds)
    ∙ (ap (λ (n : ℕ). 0 == length es || nat_le n 1) (none_of (λ e. is_rest e.label) (λ name k. refl) names kinds) ∙ or_true (0 == length es))

pub is_list : (names : List (List ℕ)) (kinds : List ColumnType) → names ≢ [] → AreSome names → length kinds ≡ length names
    → IsTypeList (list_in (column_lines names kinds)) (entries_of names kinds)
is_list names kinds some each same = (are_entries names kinds some each same, alike names kinds)
