use Rattle.std.proofs.Common.{◌≡◌, ◌∙◌, ◌<◌, ◌≤◌, ◌+◌, ◌∷◌, ap, sym, refl, map, length, List, ℕ, [], Option, None, Some, String, Global, arith}
use Rattle.std.specs.Prelude.{string_bytes, slice_index_or, option_map, Err}
use Rattle.std.proofs.lemmas.List.{length-append, length-map, map-append}
use Rattle.rj_columns.specs.Tables.{TableValue}
use Rattle.rj_condition.specs.declared.bound.BoundJoin.{BoundJoin}
use Rattle.rj_settings.specs.declared.choice.SelectedColumn.{SelectedColumn}
use Rattle.rj_engine.specs.Naming.{if_free, name_of_entry}
use Rattle.rj_engine.specs.declared.naming.NamingRefused.TheVariants.{SelectedName}
use Rattle.rj_engine.proofs.SelectedNames.{selected_all, selected_behind, selected_fault, selected_first, selected_next}
use Rattle.rj_engine.proofs.naming.selected_names.Goals as goal

pub loop-number-init : goal.loop-number-init
loop-number-init c = record {
  many = ap length c.in_ok-written.ensures.items;
  left =
      selected_first c.args.join.now c.args.left.now c.args.right.now c.args.entries.now
      ∙ ap (λ ns. selected_behind c.args.join.now c.args.left.now c.args.right.now c.args.entries.now (map string_bytes ns) 0) (sym c.in_ok-written.ensures.items);
  end = refl;
}

-- the name that was found for an entry
entry_at : (join : BoundJoin) (l r : TableValue) (entries : List SelectedColumn) (written texts : List (String Global)) (i : ℕ) (entry : SelectedColumn) (found : Option (String Global)) (o : Option (List ℕ))
    → texts ≡ written → entry ≡ slice_index_or entries i entry → option_map string_bytes found ≡ if_free (map string_bytes texts) (name_of_entry join l r entry)
    → option_map string_bytes found ≡ o → if_free (map string_bytes written) (name_of_entry join l r (slice_index_or entries i entry)) ≡ o
entry_at join l r entries written texts i entry found o same at named is =
    ap (λ (e : SelectedColumn). if_free (map string_bytes written) (name_of_entry join l r e)) (sym at)
    ∙ (ap (λ (ts : List (String Global)). if_free (map string_bytes ts) (name_of_entry join l r entry)) (sym same) ∙ (sym named ∙ is))

pub returns-in-None-clause-fault : goal.returns-in-None-clause-fault
returns-in-None-clause-fault c = λ _.
    let join = c.args.join.now in
    let l = c.args.left.now in
    let r = c.args.right.now in
    let entries = c.args.entries.now in
    let written = map string_bytes c.loop-number.written.items in
    let entry = c.index-entries-number.result in
    let size : length written ≡ c.loop-number.number = length-map c.loop-number.written.items string_bytes ∙ c.loop-number.invariant.many in
    let low : c.loop-number.number < length entries = omega (arith, c.loop-number-test.true) in
    let none =
    entry_at join l r entries c.loop-number.written.items c.as_slice.result.now c.loop-number.number entry c.in_ok-name.field-0 None c.as_slice.ensures.value c.index-entries-number.is c.in_ok-name.ensures
    (ap (option_map string_bytes) c.in-None.is) in
    c.loop-number.invariant.left
    ∙ (selected_fault join l r entries written c.loop-number.number entry low none ∙ ap (λ (n : ℕ). Err (SelectedName (n + 1))) size)

pub loop-number-preserved : goal.loop-number-preserved
loop-number-preserved c =
    let join = c.args.join.now in
    let l = c.args.left.now in
    let r = c.args.right.now in
    let entries = c.args.entries.now in
    let items = c.loop-number.written.items in
    let entry = c.index-entries-number.result in
    let next = string_bytes c.in-Some.name in
    let low : c.loop-number.number < length entries = omega (arith, c.loop-number-test.true) in
    let some =
    entry_at join l r entries items c.as_slice.result.now c.loop-number.number entry c.in_ok-name.field-0 (Some next) c.as_slice.ensures.value c.index-entries-number.is c.in_ok-name.ensures
    (ap (option_map string_bytes) c.in-Some.is) in
    let more = c.in_ok-add_name-in-Some.ensures in
    record {
      many = ap length more ∙ (length-append items (c.in-Some.name ∷ []) ∙ ap (λ (n : ℕ). n + 1) c.loop-number.invariant.many);
      left =
          c.loop-number.invariant.left
          ∙ (selected_next join l r entries (map string_bytes items) c.loop-number.number entry next low some
          ∙ ap (λ ns. selected_behind join l r entries ns (c.loop-number.number + 1)) (sym (ap (map string_bytes) more ∙ map-append string_bytes items (c.in-Some.name ∷ []))));
      end = refl;
    }

pub returns-clause-names : goal.returns-clause-names
returns-clause-names c =
    let high : length c.args.entries.now ≤ c.loop-number.number = omega (arith, c.loop-number-test.false) in
    c.loop-number.invariant.left
    ∙ selected_all c.args.join.now c.args.left.now c.args.right.now c.args.entries.now (map string_bytes c.loop-number.written.items) c.loop-number.number high
