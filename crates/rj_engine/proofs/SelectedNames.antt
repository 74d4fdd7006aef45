-- The names that are written of the columns that are chosen: as many, and those of a table if a list chose the columns.
use Rattle.std.proofs.Common.{◌≡◌, ◌∙◌, ◌<◌, ◌≤◌, ◌+◌, ℕ, suc, List, [], ◌∷◌, ◌++◌, length, map, drop, Bool, true, Option, None, Some, refl, sym, ap, subst, add-one, append_assoc, drop-cons, inl, inr}
use Rattle.std.specs.Prelude.{◌≢◌, All, Err, Ok, Result, fold, if◌then◌else◌, option_map, slice_index_or}
use Rattle.std.specs.List.{cons_option}
use Rattle.std.specs.declared.alloc.Global.{Global}
use Rattle.std.specs.declared.vec.Vec.{Vec}
use Rattle.std.proofs.lemmas.Bool.{and_parts, cases_Bool, not-true}
use Rattle.std.proofs.lemmas.List.{append-nil, drop_all, length-map}
use Rattle.rj_columns.specs.Names.{name_fault}
use Rattle.rj_columns.specs.Tables.{TableValue}
use Rattle.rj_condition.specs.Fits.{fits}
use Rattle.rj_condition.specs.declared.bound.BoundJoin.{BoundJoin}
use Rattle.rj_settings.specs.declared.choice.Choice.{Choice}
use Rattle.rj_settings.specs.declared.choice.ColumnChoice.{ColumnChoice}
use Rattle.rj_settings.specs.declared.choice.ColumnChoice.TheVariants as column_choice
use Rattle.rj_settings.specs.declared.choice.Repeated.{Repeated}
use Rattle.rj_settings.specs.declared.choice.Repeated.TheVariants.{Kept}
use Rattle.rj_settings.specs.declared.choice.SelectedColumn.{SelectedColumn}
use Rattle.rj_engine.specs.declared.naming.NamingRefused.{NamingRefused}
use Rattle.rj_engine.specs.declared.naming.NamingRefused.TheVariants.{SelectedName}
use Rattle.rj_engine.specs.declared.origin.Origin.{Origin}
use Rattle.rj_engine.specs.Cells.{header_of, name_of}
use Rattle.rj_engine.specs.Chosen.{are_all_columns, chosen_header, columns_by, is_plain}
use Rattle.rj_engine.specs.Naming.{HasLawfulNames, chosen_names, if_free, is_free, name_of_entry, names_by, new_or_own, selected_names, with_entry, with_selected}
use Rattle.rj_engine.specs.Selected.{column_of_entry, selected_columns}
use Rattle.rj_engine.proofs.ChosenFacts.{plain_parts}
use Rattle.rj_engine.proofs.NamingFacts.{IsName, Names, are_lawful, as_many, chosen_named, fault_behind}

module _ (join : BoundJoin) (l r : TableValue) where
  -- behind an error nothing is written
  err_behind : (e : NamingRefused) (entries : List SelectedColumn) → fold (with_entry join l r) (Err e) entries ≡ Err e
  err_behind e [] = refl
  err_behind e (entry ∷ entries) = err_behind e entries

  -- ---- the names of a list

  -- names behind those that were written, one for each column
  record AreBehind (written : Names) (columns : List Origin) (names : Names) : Type 0 where
    tail : Names
    is : names ≡ written ++ tail
    many : length tail ≡ length columns
    lawful : name_fault written tail ≡ None

  one_more : (written names : Names) (name : List ℕ) (o : Origin) (columns : List Origin) → is_free [] written name ≡ true
      → AreBehind (written ++ name ∷ []) columns names → AreBehind written (o ∷ columns) names
  one_more written names name o columns free behind =
      let outer = and_parts _ _ free in
      let inner = and_parts _ _ outer.0 in
      record {
        tail = name ∷ behind.tail;
        is = behind.is ∙ append_assoc written (name ∷ []) behind.tail;
        many = ap suc behind.many;
        lawful = fault_behind written behind.tail name inner.0 (not-true _ outer.1) behind.lawful;
      }

  no_name : (written names : Names) (entries : List SelectedColumn) {P : Type 0} → fold (with_entry join l r) (Err (SelectedName (length written + 1))) entries ≡ Ok names → P
  no_name written names entries e =
      let g : ◌≡◌ {A = Result Names NamingRefused} (Err (SelectedName (length written + 1))) (Ok names) = sym (err_behind (SelectedName (length written + 1)) entries) ∙ e in
      cc

  behind_of : (entries : List SelectedColumn) (written names : Names) → fold (with_entry join l r) (Ok written) entries ≡ Ok names → AreBehind written (selected_columns join l r entries) names
  unfolding name_fault
  behind_of [] written names e =
      let g : ◌≡◌ {A = Result Names NamingRefused} (Ok written) (Ok names) = e in
      let same : written ≡ names = cc in
      record { tail = []; is = sym same ∙ sym (append-nil written); many = refl; lawful = refl }
  behind_of (entry ∷ entries) written names e =
      let step : Option (List ℕ) → Type 0 = λ o. fold (with_entry join l r) (with_selected written o) entries ≡ Ok names in
      let by_name : (o : Origin) (name : List ℕ) → step (if_free written (Some name)) → AreBehind written (o ∷ selected_columns join l r entries) names = λ o name h.
      let choose : Bool → Option (List ℕ) = λ b. if b then Some name else None in
      elim (cases_Bool (is_free [] written name)) [
        | inl free ↦ one_more written names name o (selected_columns join l r entries) free (behind_of entries (written ++ name ∷ []) names (subst step (ap choose free) h))
        | inr taken ↦ no_name written names entries (subst step (ap choose taken) h)
      ] in
      let by_column : (found : Option Origin) → step (if_free written (option_map (λ o. new_or_own entry.written (name_of l r o)) found))
      → AreBehind written (cons_option found (selected_columns join l r entries)) names = λ found.
      elim found as (λ (found : Option Origin). step (if_free written (option_map (λ o. new_or_own entry.written (name_of l r o)) found))
      → AreBehind written (cons_option found (selected_columns join l r entries)) names) [
        | None ↦ λ h. no_name written names entries h
        | Some o ↦ λ h. by_name o (new_or_own entry.written (name_of l r o)) h
      ] in
      by_column (column_of_entry join l r entry) e

  selected_many : (entries : List SelectedColumn) (names : Names) → selected_names join l r entries ≡ Ok names → length names ≡ length (selected_columns join l r entries)
  unfolding selected_names
  selected_many entries names e = let behind = behind_of entries [] names e in ap length behind.is ∙ behind.many

  selected_lawful : (entries : List SelectedColumn) (names : Names) → selected_names join l r entries ≡ Ok names → name_fault [] names ≡ None
  unfolding selected_names
  selected_lawful entries names e = let behind = behind_of entries [] names e in ap (name_fault []) behind.is ∙ behind.lawful

  -- ---- what is written of any choice

  abbrev own_names : ColumnChoice → Names
  own_names c = map (name_of l r) (columns_by c join l r)

  many_by : (c : ColumnChoice) (repeated : Repeated) (names : Names) → names_by c repeated (own_names c) join l r ≡ Ok names → length names ≡ length (own_names c)
  many_by column_choice.All repeated names e = as_many repeated (own_names column_choice.All) names e
  many_by column_choice.Left repeated names e = as_many repeated (own_names column_choice.Left) names e
  many_by column_choice.Right repeated names e = as_many repeated (own_names column_choice.Right) names e
  many_by (column_choice.Selected entries) repeated names e = selected_many entries.items names e ∙ sym (length-map (selected_columns join l r entries.items) (name_of l r))

  lawful_by : (c : ColumnChoice) (repeated : Repeated) (names : Names) → repeated ≢ Kept → All IsName (own_names c) → names_by c repeated (own_names c) join l r ≡ Ok names
      → name_fault [] names ≡ None
  lawful_by column_choice.All repeated names other h e = are_lawful repeated (own_names column_choice.All) names other h e
  lawful_by column_choice.Left repeated names other h e = are_lawful repeated (own_names column_choice.Left) names other h e
  lawful_by column_choice.Right repeated names other h e = are_lawful repeated (own_names column_choice.Right) names other h e
  lawful_by (column_choice.Selected entries) repeated names other h e = selected_lawful entries.items names e

  plain_by : (c : ColumnChoice) → are_all_columns c ≡ true → names_by c Kept (own_names c) join l r ≡ Ok (header_of join l r)
  plain_by column_choice.All all = refl
  plain_by column_choice.Left all = cc
  plain_by column_choice.Right all = cc
  plain_by (column_choice.Selected entries) all = cc

  -- ---- what is left of a list

  unfoldable pub selected_behind : List SelectedColumn → Names → ℕ → Result Names NamingRefused
  selected_behind entries written i = fold (with_entry join l r) (Ok written) (drop i entries)

  pub selected_first : (entries : List SelectedColumn) → selected_names join l r entries ≡ selected_behind entries [] 0
  unfolding selected_names selected_behind
  selected_first entries = refl

  pub selected_next : (entries : List SelectedColumn) (written : Names) (i : ℕ) (d : SelectedColumn) (next : List ℕ) → i < length entries
      → if_free written (name_of_entry join l r (slice_index_or entries i d)) ≡ Some next → selected_behind entries written i ≡ selected_behind entries (written ++ next ∷ []) (i + 1)
  unfolding selected_behind
  selected_next entries written i d next low is =
      ap (fold (with_entry join l r) (Ok written)) (drop-cons entries i d low)
      ∙ (ap (λ (o : Option (List ℕ)). fold (with_entry join l r) (with_selected written o) (drop (suc i) entries)) is
      ∙ ap (λ (n : ℕ). fold (with_entry join l r) (Ok (written ++ next ∷ [])) (drop n entries)) (sym (add-one i)))

  pub selected_fault : (entries : List SelectedColumn) (written : Names) (i : ℕ) (d : SelectedColumn) → i < length entries
      → if_free written (name_of_entry join l r (slice_index_or entries i d)) ≡ None → selected_behind entries written i ≡ Err (SelectedName (length written + 1))
  unfolding selected_behind
  selected_fault entries written i d low is =
      ap (fold (with_entry join l r) (Ok written)) (drop-cons entries i d low)
      ∙ (ap (λ (o : Option (List ℕ)). fold (with_entry join l r) (with_selected written o) (drop (suc i) entries)) is
      ∙ err_behind (SelectedName (length written + 1)) (drop (suc i) entries))

  pub selected_all : (entries : List SelectedColumn) (written : Names) (i : ℕ) → length entries ≤ i → selected_behind entries written i ≡ Ok written
  unfolding selected_behind
  selected_all entries written i past = ap (fold (with_entry join l r) (Ok written)) (drop_all i entries past)

module _ (choice : Choice) (join : BoundJoin) (l r : TableValue) where
  pub chosen_many : (names : Names) → chosen_names choice join l r ≡ Ok names → length names ≡ length (chosen_header choice join l r)
  chosen_many names e = many_by join l r choice.columns choice.repeated names e

  pub chosen_lawful : (names : Names) → fits join l.types r.types ≡ true → HasLawfulNames l → HasLawfulNames r → choice.repeated ≢ Kept → chosen_names choice join l r ≡ Ok names
      → name_fault [] names ≡ None
  chosen_lawful names bound left right other e = lawful_by join l r choice.columns choice.repeated names other (chosen_named choice join l r bound left right) e

  pub listed_lawful : (names : Names) (entries : Vec SelectedColumn Global) → choice.columns ≡ column_choice.Selected entries → chosen_names choice join l r ≡ Ok names
      → name_fault [] names ≡ None
  listed_lawful names entries is e =
      selected_lawful join l r entries.items names (subst (λ (c : ColumnChoice). names_by c choice.repeated (own_names join l r c) join l r ≡ Ok names) is e)

  pub plain_names : is_plain choice ≡ true → choice.repeated ≡ Kept → chosen_names choice join l r ≡ Ok (header_of join l r)
  plain_names plain kept =
      ap (λ (repeated : Repeated). names_by choice.columns repeated (own_names join l r choice.columns) join l r) kept
      ∙ plain_by join l r choice.columns (plain_parts choice join l r plain).1
