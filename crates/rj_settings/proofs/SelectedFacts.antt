-- An entry of a list of columns is found if and only if it is there.
use Rattle.std.proofs.Common.{◌≡◌, ◌≢◌, ◌∙◌, ◌++◌, ◌∷◌, [], ℕ, Bool, List, Option, Some, None, true, false, cond, inl, inr, refl, sym, ap, subst, append_assoc, codes, drop}
use Rattle.std.proofs.lemmas.Bool.{cases_Bool}
use Rattle.std.proofs.lemmas.List.{append-nil}
use Rattle.rj_columns.specs.Names.{is_name}
use Rattle.rj_condition.specs.Names.{matches}
use Rattle.rj_condition.specs.declared.tree.Name.{Name}
use Rattle.rj_settings.specs.declared.choice.SelectedColumn.{SelectedColumn}
use Rattle.rj_settings.specs.declared.choice.Source.{Source}
use Rattle.rj_settings.specs.declared.choice.Source.TheVariants as source
use Rattle.rj_settings.specs.Labels.{IsNameWord}
use Rattle.rj_settings.specs.Internal.Scanning.{behind, column_by, column_in, column_of, name_in, qualified, renamed, selected_by, selected_in, selected_of, written_by, written_in}
use Rattle.rj_settings.specs.Selected.{BeginsSelected, IsQualifier, IsRenaming, IsSelected, source_of}
use Rattle.rj_settings.specs.Words.{before}
use Rattle.rj_settings.proofs.NameFacts.{EndsName, HasName, behind_sound, name_found, name_sound}
use Rattle.rj_settings.proofs.Separated.{IsReadOnce}
use Rattle.rj_settings.proofs.WordFacts.{some_same}

-- a qualifier, a name and what follows them
grouped : (a m n : List ℕ) → ((a ++ 46 ∷ []) ++ m) ++ n ≡ a ++ 46 ∷ (m ++ n)
grouped a m n = append_assoc (a ++ 46 ∷ []) m n ∙ append_assoc a (46 ∷ []) (m ++ n)

-- no name before a point means the joined table
not_joined : (q : Name) → source_of q ≡ Some source.Joined → ⊥
not_joined q is = by (matches q (codes "L")) (matches q (codes "R")) is
  where
    by : (a b : Bool) → cond a (Some source.Left) (cond b (Some source.Right) None) ≡ Some source.Joined → ⊥
    by true b e = cc
    by false true e = cc
    by false false e = cc

table_word : (s : Source) (q : Name) (word : List ℕ) → IsNameWord q.delimited q.text word → source_of q ≡ Some s → IsQualifier s (word ++ 46 ∷ [])
table_word source.Joined q word name is = absurd (not_joined q is)
table_word source.Left q word name is = (q, word, name, is, refl)
table_word source.Right q word name is = (q, word, name, is, refl)

-- what is found has the form of a column
abbrev HasColumn : List ℕ → (Source × Name) × List ℕ → Type 0
HasColumn text p =
    (qualifier name : List ℕ) × IsQualifier p.0.0 qualifier × IsNameWord p.0.1.delimited p.0.1.text name × (text ≡ (qualifier ++ name) ++ p.1)

qualified_sound : (text : List ℕ) (q : Name × List ℕ) (rest : List ℕ) (s : Option Source) (o : Option (Name × List ℕ)) (p : (Source × Name) × List ℕ) → HasName text q
    → q.1 ≡ 46 ∷ rest → source_of q.0 ≡ s → name_in rest ≡ o → qualified s o ≡ Some p → HasColumn text p
qualified_sound text q rest None o p has point is name e = cc
qualified_sound text q rest (Some s) None p has point is name e = cc
qualified_sound text q rest (Some s) (Some n) p has point is name e =
    let f : Some ((s, n.0), n.1) ≡ Some p = e in
    let more = name_sound rest n name in
    subst (HasColumn text) (some_same _ _ f) (
      has.0 ++ 46 ∷ [],
      more.0,
      table_word s q.0 has.0 has.1 is,
      more.1,
      has.2 ∙ (ap (λ (z : List ℕ). has.0 ++ z) (point ∙ ap (λ (z : List ℕ). 46 ∷ z) more.2) ∙ sym (grouped has.0 more.0 n.1)),
    )

point_sound : (text : List ℕ) (q : Name × List ℕ) (r : Option (List ℕ)) (p : (Source × Name) × List ℕ) → HasName text q → behind 46 q.1 ≡ r → column_by q r ≡ Some p
    → HasColumn text p
point_sound text q None p has is e =
    let f : Some ((source.Joined, q.0), q.1) ≡ Some p = e in
    subst (HasColumn text) (some_same _ _ f) ([], has.0, refl, has.1, has.2)
point_sound text q (Some rest) p has is e =
    qualified_sound text q rest (source_of q.0) (name_in rest) p has (behind_sound 46 q.1 rest is) refl refl e

column_sound : (text : List ℕ) (o : Option (Name × List ℕ)) (p : (Source × Name) × List ℕ) → name_in text ≡ o → column_of o ≡ Some p → HasColumn text p
column_sound text None p is e = cc
column_sound text (Some q) p is e = point_sound text q (behind 46 q.1) p (name_sound text q is) refl e

-- and of a new name
abbrev HasRenaming : List ℕ → Option Name × List ℕ → Type 0
HasRenaming text p = (renaming : List ℕ) × IsRenaming p.0 renaming × (text ≡ renaming ++ p.1)

renamed_sound : (text rest : List ℕ) (o : Option (Name × List ℕ)) (p : Option Name × List ℕ) → text ≡ 61 ∷ rest → name_in rest ≡ o → renamed o ≡ Some p → HasRenaming text p
renamed_sound text rest None p is name e = cc
renamed_sound text rest (Some n) p is name e = elim (cases_Bool (is_name n.0.text)) [
  | inl h ↦
      let f : Some (Some n.0, n.1) ≡ Some p = sym (ap (λ (t : Bool). cond t (Some (Some n.0, n.1)) None) h) ∙ e in
      let has = name_sound rest n name in
      subst (HasRenaming text) (some_same _ _ f) (61 ∷ has.0, (has.0, has.1, h, refl), is ∙ ap (λ (z : List ℕ). 61 ∷ z) has.2)
  | inr h ↦
      let f : ◌≡◌ {A = Option (Option Name × List ℕ)} None (Some p) = sym (ap (λ (t : Bool). cond t (Some (Some n.0, n.1)) None) h) ∙ e in
      cc
]

written_sound : (text : List ℕ) (r : Option (List ℕ)) (p : Option Name × List ℕ) → behind 61 text ≡ r → written_by r text ≡ Some p → HasRenaming text p
written_sound text None p is e =
    let f : Some (None, text) ≡ Some p = e in
    subst (HasRenaming text) (some_same _ _ f) ([], refl, refl)
written_sound text (Some rest) p is e = renamed_sound text rest (name_in rest) p (behind_sound 61 text rest is) refl e

-- and of an entry
abbrev HasEntry : List ℕ → SelectedColumn × List ℕ → Type 0
HasEntry text p = (word : List ℕ) × IsSelected p.0 word × (text ≡ word ++ p.1)

renaming_sound : (text : List ℕ) (c : (Source × Name) × List ℕ) (o : Option (Option Name × List ℕ)) (p : SelectedColumn × List ℕ) → HasColumn text c → written_in c.1 ≡ o
    → selected_by c.0 o ≡ Some p → HasEntry text p
renaming_sound text c None p has is e = cc
renaming_sound text c (Some w) p has is e =
    let f : Some (record { source = c.0.0; name = c.0.1; written = w.0 }, w.1) ≡ Some p = e in
    let more = written_sound c.1 (behind 61 c.1) w refl is in
    subst (HasEntry text) (some_same _ _ f) (
      (has.0 ++ has.1) ++ more.0,
      (has.0, has.1, more.0, has.2, has.3, more.1, refl),
      has.4 ∙ (ap (λ (z : List ℕ). (has.0 ++ has.1) ++ z) more.2 ∙ sym (append_assoc (has.0 ++ has.1) more.0 w.1)),
    )

by_column : (text : List ℕ) (o : Option ((Source × Name) × List ℕ)) (p : SelectedColumn × List ℕ) → column_in text ≡ o → selected_of o ≡ Some p → HasEntry text p
by_column text None p is e = cc
by_column text (Some c) p is e = renaming_sound text c (written_in c.1) p (column_sound text (name_in text) c refl is) refl e

selected_sound : (text : List ℕ) (p : SelectedColumn × List ℕ) → selected_in text ≡ Some p → HasEntry text p
selected_sound text p e = by_column text (column_in text) p refl e

-- what is left behind an entry: nothing, or a comma and the rest of the list
abbrev tail : Option (List ℕ) → List ℕ
tail None = []
tail (Some rest) = 44 ∷ rest

before_tail : (word : List ℕ) (r : Option (List ℕ)) → before word r ≡ word ++ tail r
before_tail word None = sym (append-nil word)
before_tail word (Some rest) = refl

one_tail : (r s : Option (List ℕ)) → tail r ≡ tail s → r ≡ s
one_tail None None e = refl
one_tail None (Some y) e = cc
one_tail (Some x) None e = cc
one_tail (Some x) (Some y) e = ap Some (ap (drop 1) e)

ends_tail : (r : Option (List ℕ)) → EndsName (tail r)
ends_tail None = record { letters = refl; quotes = refl }
ends_tail (Some rest) = record { letters = refl; quotes = refl }

no_sign : (r : Option (List ℕ)) → behind 61 (tail r) ≡ None
no_sign None = refl
no_sign (Some rest) = refl

-- no name goes on behind a column, nor is there a point
pub record EndsColumn (rest : List ℕ) : Type 0 where
  pub name : EndsName rest
  pub point : behind 46 rest ≡ None

ends_column : (o : Option Name) (renaming : List ℕ) (r : Option (List ℕ)) → IsRenaming o renaming → EndsColumn (renaming ++ tail r)
ends_column None renaming None is = subst (λ (z : List ℕ). EndsColumn (z ++ tail None)) (sym is) (record { name = ends_tail None; point = refl })
ends_column None renaming (Some rest) is = subst (λ (z : List ℕ). EndsColumn (z ++ tail (Some rest))) (sym is) (record { name = ends_tail (Some rest); point = refl })
ends_column (Some n) renaming r is =
    subst (λ (z : List ℕ). EndsColumn (z ++ tail r)) (sym is.3) (record { name = record { letters = refl; quotes = refl }; point = refl })

-- an entry that is there is found
renaming_found : (o : Option Name) (renaming : List ℕ) (r : Option (List ℕ)) → IsRenaming o renaming → written_in (renaming ++ tail r) ≡ Some (o, tail r)
renaming_found None renaming r is = ap (λ (z : List ℕ). written_in (z ++ tail r)) is ∙ ap (λ (o : Option (List ℕ)). written_by o (tail r)) (no_sign r)
renaming_found (Some n) renaming r is =
    ap (λ (z : List ℕ). written_in (z ++ tail r)) is.3
    ∙ (ap renamed (name_found n is.0 (tail r) is.1 (ends_tail r)) ∙ ap (λ (t : Bool). cond t (Some (Some n, tail r)) None) is.2)

table_found : (s : Source) (q n : Name) (word name rest : List ℕ) → IsNameWord q.delimited q.text word → source_of q ≡ Some s → IsNameWord n.delimited n.text name → EndsName rest
    → column_in (((word ++ 46 ∷ []) ++ name) ++ rest) ≡ Some ((s, n), rest)
table_found s q n word name rest qualifier is named ends =
    ap column_in (grouped word name rest)
    ∙ (ap column_of (name_found q word (46 ∷ (name ++ rest)) qualifier (record { letters = refl; quotes = refl }))
    ∙ (ap (λ (o : Option Source). qualified o (name_in (name ++ rest))) is ∙ ap (qualified (Some s)) (name_found n name rest named ends)))

column_found : (s : Source) (n : Name) (qualifier name rest : List ℕ) → IsQualifier s qualifier → IsNameWord n.delimited n.text name → EndsColumn rest
    → column_in ((qualifier ++ name) ++ rest) ≡ Some ((s, n), rest)
column_found source.Joined n qualifier name rest is named ends =
    ap (λ (z : List ℕ). column_in ((z ++ name) ++ rest)) is
    ∙ (ap column_of (name_found n name rest named ends.name) ∙ ap (column_by (n, rest)) ends.point)
column_found source.Left n qualifier name rest is named ends =
    ap (λ (z : List ℕ). column_in ((z ++ name) ++ rest)) is.4 ∙ table_found source.Left is.0 n is.1 name rest is.2 is.3 named ends.name
column_found source.Right n qualifier name rest is named ends =
    ap (λ (z : List ℕ). column_in ((z ++ name) ++ rest)) is.4 ∙ table_found source.Right is.0 n is.1 name rest is.2 is.3 named ends.name

entry_found : (e : SelectedColumn) (text : List ℕ) (r : Option (List ℕ)) → BeginsSelected e text r → selected_in text ≡ Some (e, tail r)
entry_found e text r begins =
    let is = begins.1 in
    let front = is.0 ++ is.1 in
    let whole : text ≡ front ++ (is.2 ++ tail r) =
    begins.2 ∙ (before_tail begins.0 r ∙ (ap (λ (z : List ℕ). z ++ tail r) is.6 ∙ append_assoc front is.2 (tail r))) in
    ap selected_in whole
    ∙ (ap selected_of (column_found e.source e.name is.0 is.1 (is.2 ++ tail r) is.3 is.4 (ends_column e.written is.2 r is.5))
    ∙ ap (selected_by (e.source, e.name)) (renaming_found e.written is.2 r is.5))

-- and it is one
pub column_once : IsReadOnce IsSelected
column_once e f text r s one two =
    let same : (e, tail r) ≡ (f, tail s) = some_same _ _ (sym (entry_found e text r one) ∙ entry_found f text s two) in
    (ap (λ (p : SelectedColumn × List ℕ). p.0) same, one_tail r s (ap (λ (p : SelectedColumn × List ℕ). p.1) same))

-- what is left behind it
pub entry_ends : (e : SelectedColumn) (text after : List ℕ) → Some (e, after) ≡ selected_in text → after ≡ [] → BeginsSelected e text None
entry_ends e text after found is =
    let has = selected_sound text (e, after) (sym found) in
    (has.0, has.1, has.2 ∙ (ap (λ (z : List ℕ). has.0 ++ z) is ∙ append-nil has.0))

pub entry_more : (e : SelectedColumn) (text after rest : List ℕ) → Some (e, after) ≡ selected_in text → Some rest ≡ behind 44 after → BeginsSelected e text (Some rest)
entry_more e text after rest found is =
    let has = selected_sound text (e, after) (sym found) in
    (has.0, has.1, has.2 ∙ ap (λ (z : List ℕ). has.0 ++ z) (behind_sound 44 after rest (sym is)))

-- a text that begins with none has none
pub entry_missing : (text : List ℕ) → None ≡ selected_in text → (e : SelectedColumn) (rest : Option (List ℕ)) → BeginsSelected e text rest → ⊥
entry_missing text none e rest begins = let f : ◌≡◌ {A = Option (SelectedColumn × List ℕ)} None (Some (e, tail rest)) = none ∙ entry_found e text rest begins in cc

no_tail : (rest : Option (List ℕ)) → tail rest ≢ [] → None ≡ behind 44 (tail rest) → ⊥
no_tail None some none = some refl
no_tail (Some rest) some none = cc

pub entry_run_on : (mine : SelectedColumn) (text after : List ℕ) → Some (mine, after) ≡ selected_in text → after ≢ [] → None ≡ behind 44 after
    → (e : SelectedColumn) (rest : Option (List ℕ)) → BeginsSelected e text rest → ⊥
entry_run_on mine text after found some none e rest begins =
    let same : (mine, after) ≡ (e, tail rest) = some_same _ _ (found ∙ entry_found e text rest begins) in
    let left : after ≡ tail rest = ap (λ (p : SelectedColumn × List ℕ). p.1) same in
    no_tail rest (λ empty. some (left ∙ empty)) (none ∙ ap (behind 44) left)
