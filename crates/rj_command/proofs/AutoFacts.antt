-- The types that a request takes from cells.
use Rattle.std.proofs.Common.{◌≡◌, ◌∙◌, ◌+◌, ◌++◌, ◌∷◌, [], ap, ap₂, append_assoc, drop, length, refl, sym, subst, take, true, false, true≢false, Bool, List, ℕ, Option, Some, None}
use Rattle.std.specs.Prelude.{IsErr, MatchOption, OnOk, Result, Ok, Err, is_err, replicate, slice_get}
use Rattle.std.specs.Option.{option_to_list}
use Rattle.std.specs.declared.alloc.Global.{Global}
use Rattle.std.specs.declared.vec.Vec.{Vec}
use Rattle.std.proofs.lemmas.List.{append-nil}
use Rattle.std.proofs.Math.Seq.{take-append_seam}
use Rattle.csv.specs.Reading.{records, strip_bom}
use Rattle.rj_columns.specs.Names.{empty_table}
use Rattle.rj_columns.specs.Tables.{TableValue}
use Rattle.rj_columns.specs.declared.cell.ColumnType.{ColumnType}
use Rattle.rj_columns.specs.declared.cell.ColumnType.TheVariants as kind
use Rattle.rj_condition.proofs.StepFacts.{drop_get}
use Rattle.rj_condition.specs.Bound.{bound}
use Rattle.rj_condition.specs.Clauses.{HasClause}
use Rattle.rj_condition.specs.declared.tree.Clause.{Clause}
use Rattle.rj_csv_io.specs.declared.refused.ReadRefused.{ReadRefused}
use Rattle.rj_line.specs.declared.fault.Fault.{Fault}
use Rattle.rj_line.specs.declared.fault.Side.{Side}
use Rattle.rj_line.specs.declared.fault.Side.TheVariants as side
use Rattle.rj_line.specs.declared.request.Request.{Request}
use Rattle.rj_csv_io.specs.Grammar.{Derives, File, records_of}
use Rattle.rj_csv_io.specs.StrictReading.{body_of, config_of}
use Rattle.rj_csv_io.specs.declared.strict.header.HeaderPlace.TheVariants.{First}
use Rattle.rj_line.specs.Suggested.{AreKindsOf, read_as_texts}
use Rattle.rj_settings.specs.declared.types.entry.TypeEntry.{TypeEntry}
use Rattle.rj_command.specs.Auto.{AreKindsIn, AreStrictKinds, HasFurther, IsBound, IsNumberTable, entries_from, entry_at, entry_for, leaves_open}
use Rattle.rj_command.specs.Operands.{AreHeaders}
use Rattle.rj_command.specs.Sides.{delimiter_of, types_of}
use Rattle.rj_command.specs.Undeclared.{is_undeclared}

-- records that don't read as texts suggest no types
pub unread : (rs nulls : List (List (List ℕ))) (ns : List (List ℕ)) (e : ReadRefused) (kinds : List ColumnType) → read_as_texts rs ns ≡ Err e
    → ((t : TableValue) × AreKindsOf rs ns t kinds) → ⊥
unread rs nulls ns e kinds refused are = let same : ◌≡◌ {A = Result TableValue ReadRefused} (Ok are.0) (Err e) = sym are.1.read ∙ refused in cc

module _ (full : Bool) (q : Request) (s : Side) (text quoted_text : List ℕ) where
  -- the types that the records of a derivation suggest are those of its text with quotes in empty lines
  pub of_quoted : (o : Option (Vec ColumnType Global)) → ((file : File) → Derives (delimiter_of q s) First full (body_of First text) file → records (config_of (delimiter_of q s)) (strip_bom quoted_text) ≡ records_of file)
      → ((file : File) × Derives (delimiter_of q s) First full (body_of First text) file)
      → MatchOption o ((kinds : List ColumnType) → AreKindsIn q s (records (config_of (delimiter_of q s)) (strip_bom quoted_text)) kinds → ⊥)
      (λ v. AreKindsIn q s (records (config_of (delimiter_of q s)) (strip_bom quoted_text)) v.items)
      → MatchOption o ((kinds : List ColumnType) → AreStrictKinds full q s text kinds → ⊥) (λ v. AreStrictKinds full q s text v.items)
  of_quoted None same derived none = λ kinds are. none kinds (subst (λ rs. AreKindsIn q s rs kinds) (sym (same are.0 are.1)) are.2)
  of_quoted (Some v) same derived are = (derived.0, derived.1, subst (λ rs. AreKindsIn q s rs v.items) (same derived.0 derived.1) are)

-- the table of numbers under the first record of a text
pub number_under : (d : ℕ) (bytes : List ℕ) (header : List (List ℕ)) (rest : List (List (List ℕ))) (o : Option TableValue)
    → records (config_of d) (strip_bom bytes) ≡ header ∷ rest
    → MatchOption o ((t : TableValue) → empty_table header (replicate (length header) kind.Int) ≡ Ok t → ⊥)
    (λ t. empty_table header (replicate (length header) kind.Int) ≡ Ok t)
    → MatchOption o ((t : TableValue) → IsNumberTable d bytes t → ⊥) (IsNumberTable d bytes)
number_under d bytes header rest None is none = λ t table.
    let same : ◌≡◌ {A = List (List (List ℕ))} (table.0 ∷ table.1) (header ∷ rest) = sym table.2 ∙ is in
    let named : table.0 ≡ header = cc in
    none t (subst (λ (h : List (List ℕ)). empty_table h (replicate (length h) kind.Int) ≡ Ok t) named table.3)
number_under d bytes header rest (Some t) is made = (header, rest, is, made)

-- one more entry, and those of the columns behind
pub entry_next : (q : Request) (s : Side) (compared : ℕ → Bool) (kinds : List ColumnType) (names : List (List ℕ)) (i : ℕ) (name : List ℕ) (done : List TypeEntry)
    (entry : Option TypeEntry) → slice_get names i ≡ Some name → entry ≡ entry_at q s compared kinds i name
    → (done ++ option_to_list entry) ++ entries_from q s compared kinds (i + 1) (drop (i + 1) names) ≡ done ++ entries_from q s compared kinds i (drop i names)
entry_next q s compared kinds names i name done entry is made =
    append_assoc done (option_to_list entry) (entries_from q s compared kinds (i + 1) (drop (i + 1) names))
    ∙ ap (λ l. done ++ l) (ap (λ e. option_to_list e ++ entries_from q s compared kinds (i + 1) (drop (i + 1) names)) made
    ∙ sym (ap (entries_from q s compared kinds i) (drop_get names i name is)))

taken_back : {A : Type 0} (xs ys : List A) → take (length xs) (xs ++ ys) ≡ xs ++ []
taken_back xs ys = take-append_seam xs ys ∙ sym (append-nil xs)

-- and so is one whose further entries were taken away
pub cut_further : (q full p : Request) (lefts rights : List TypeEntry) → HasFurther q full lefts rights
    → p.left_types.items ≡ take (length q.left_types.items) full.left_types.items → p.right_types.items ≡ take (length q.right_types.items) full.right_types.items
    → ◌≡◌ {A = Request} (record p { left_types = full.left_types; right_types = full.right_types }) full → HasFurther q p [] []
cut_further q full p lefts rights added left right same = record {
  left_types = left ∙ (ap (take (length q.left_types.items)) added.left_types ∙ taken_back q.left_types.items lefts);
  right_types = right ∙ (ap (take (length q.right_types.items)) added.right_types ∙ taken_back q.right_types.items rights);
  same = ap (λ (x : Request). record x { left_types = q.left_types; right_types = q.right_types }) same ∙ added.same;
}

-- what holds where there is no error
pub where_ok : {E : Type 0} (r : Result (Unit {0}) E) (P : Type 0) → is_err r ≡ false → OnOk r P → P
where_ok (Ok x) P is holds = holds
where_ok (Err e) P is holds = absurd (true≢false is)

module _ (q : Request) (s : Side) (compared : ℕ → Bool) (kinds : List ColumnType) (i : ℕ) (name : List ℕ) where
  -- a column has no entry if it is declared, if it isn't compared, or if it has no type
  pub declared_none : is_undeclared (leaves_open q s) (types_of q s) name ≡ false → None ≡ entry_at q s compared kinds i name
  declared_none is = rw is refl

  pub uncompared_none : is_undeclared (leaves_open q s) (types_of q s) name ≡ true → compared i ≡ false → None ≡ entry_at q s compared kinds i name
  uncompared_none is not = rw (is, not) refl

  pub untyped_none : is_undeclared (leaves_open q s) (types_of q s) name ≡ true → compared i ≡ true → slice_get kinds i ≡ None → None ≡ entry_at q s compared kinds i name
  untyped_none is so none = rw (is, so, none) refl

  -- and else that of its type
  pub entry_some : (kind : ColumnType) (entry : TypeEntry) → is_undeclared (leaves_open q s) (types_of q s) name ≡ true → compared i ≡ true → slice_get kinds i ≡ Some kind
      → entry ≡ entry_for name kind → Some entry ≡ entry_at q s compared kinds i name
  entry_some kind entry is so typed made = rw (is, so, typed) (ap Some made)

  pub undeclared_by : (b v opens : Bool) (entries : List TypeEntry) → b ≡ is_undeclared opens entries name → opens ≡ leaves_open q s → entries ≡ types_of q s → b ≡ v
      → is_undeclared (leaves_open q s) (types_of q s) name ≡ v
  undeclared_by b v opens entries is opened listed so = sym (is ∙ ap₂ (λ o es. is_undeclared o es name) opened listed) ∙ so

module _ (left right : List ℕ) (q : Request) where
  -- nor where it has an error over them
  pub unbound_clause : (one : (text : List ℕ) (c d : Clause) → HasClause text c → HasClause text d → c ≡ d) (c : Clause) (l r : TableValue) → HasClause q.clause.now c
      → AreHeaders left right q l r → IsErr (bound c l r) → IsBound left right q → ⊥
  unbound_clause one c l r has are refused is =
      let lefts : ◌≡◌ {A = Result TableValue Fault} (Ok is.0) (Ok l) = sym is.2.left_header ∙ are.left_header in
      let rights : ◌≡◌ {A = Result TableValue Fault} (Ok is.1) (Ok r) = sym is.2.right_header ∙ are.right_header in
      let left_same : is.0 ≡ l = cc in
      let right_same : is.1 ≡ r = cc in
      let clause_same : is.3.1.0 ≡ c = one q.clause.now is.3.1.0 c is.3.1.1 has in
      let found : bound c l r ≡ Ok is.3.0 =
      subst (λ (d : Clause). bound d l r ≡ Ok is.3.0) clause_same
      (subst (λ (x : TableValue). bound is.3.1.0 x r ≡ Ok is.3.0) left_same (subst (λ (x : TableValue). bound is.3.1.0 is.0 x ≡ Ok is.3.0) right_same is.3.1.2)) in
      let no = rw found at refused in
      true≢false (sym no)
