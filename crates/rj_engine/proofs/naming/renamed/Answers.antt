use Rattle.std.proofs.Common.{◌≡◌, ◌∙◌, ◌<◌, ◌≤◌, ◌+◌, ◌∷◌, ap, sym, refl, map, length, Bor, List, ℕ, [], Option, None, Some, String, Global, rules, arith}
use Rattle.std.specs.Prelude.{string_bytes, slice_index_or, option_map, Err}
use Rattle.std.proofs.lemmas.List.{length-append, length-map, map-append}
use Rattle.rj_settings.specs.declared.choice.Repeated.{Repeated}
use Rattle.rj_engine.specs.Naming.{next_name}
use Rattle.rj_engine.specs.declared.naming.NamingRefused.TheVariants.{NoFreeName}
use Rattle.rj_engine.proofs.NamingFacts.{renamed_all, renamed_behind, renamed_fault, renamed_first, renamed_more}
use Rattle.rj_engine.proofs.naming.renamed.Goals as goal

pub loop-column-init : goal.loop-column-init
loop-column-init c = record {
  many = search rules;
  left =
      let header = map (λ (n : Bor (List ℕ)). n.now) c.args.header.now in
      renamed_first c.args.repeated header ∙ ap (λ ns. renamed_behind c.args.repeated header (map string_bytes ns) 0) (sym c.in_ok-written.ensures.items);
  end = refl;
}

named_at : (repeated : Repeated) (header : List (List ℕ)) (written texts : List (String Global)) (column : ℕ) (found : Option (String Global)) (o : Option (List ℕ))
    → texts ≡ written → length written ≡ column
    → option_map string_bytes found ≡ next_name repeated header (map string_bytes texts) (slice_index_or header (length texts) []) → option_map string_bytes found ≡ o
    → next_name repeated header (map string_bytes written) (slice_index_or header column []) ≡ o
named_at repeated header written texts column found o same many named is =
    ap (λ (k : ℕ). next_name repeated header (map string_bytes written) (slice_index_or header k [])) (sym many)
    ∙ (ap (λ (ts : List (String Global)). next_name repeated header (map string_bytes ts) (slice_index_or header (length ts) [])) (sym same) ∙ (sym named ∙ is))

pub returns-in-None-clause-fault : goal.returns-in-None-clause-fault
returns-in-None-clause-fault c = λ _.
    let header = map (λ (n : Bor (List ℕ)). n.now) c.args.header.now in
    let written = map string_bytes c.loop-column.written.items in
    let size : length written ≡ c.loop-column.column = length-map c.loop-column.written.items string_bytes ∙ c.loop-column.invariant.many in
    let wide : length header ≡ length c.args.header.now = length-map c.args.header.now (λ (n : Bor (List ℕ)). n.now) in
    let low : c.loop-column.column < length header = omega (arith, c.loop-column-test.true) in
    let none =
    named_at c.args.repeated header c.loop-column.written.items c.as_slice.result.now c.loop-column.column c.in_ok-name.field-0 None c.as_slice.ensures.value c.loop-column.invariant.many c.in_ok-name.ensures
    (ap (option_map string_bytes) c.in-None.is) in
    c.loop-column.invariant.left
    ∙ (renamed_fault c.args.repeated header written c.loop-column.column low none ∙ ap (λ (n : ℕ). Err (NoFreeName (n + 1))) size)

pub loop-column-preserved : goal.loop-column-preserved
loop-column-preserved c =
    let header = map (λ (n : Bor (List ℕ)). n.now) c.args.header.now in
    let items = c.loop-column.written.items in
    let next = string_bytes c.in-Some.name in
    let wide : length header ≡ length c.args.header.now = length-map c.args.header.now (λ (n : Bor (List ℕ)). n.now) in
    let low : c.loop-column.column < length header = omega (arith, c.loop-column-test.true) in
    let some =
    named_at c.args.repeated header items c.as_slice.result.now c.loop-column.column c.in_ok-name.field-0 (Some next) c.as_slice.ensures.value c.loop-column.invariant.many c.in_ok-name.ensures
    (ap (option_map string_bytes) c.in-Some.is) in
    let more = c.in_ok-add_name-in-Some.ensures in
    record {
      many = ap length more ∙ (length-append items (c.in-Some.name ∷ []) ∙ ap (λ (n : ℕ). n + 1) c.loop-column.invariant.many);
      left =
          c.loop-column.invariant.left
          ∙ (renamed_more c.args.repeated header (map string_bytes items) c.loop-column.column next low some
          ∙ ap (λ ns. renamed_behind c.args.repeated header ns (c.loop-column.column + 1)) (sym (ap (map string_bytes) more ∙ map-append string_bytes items (c.in-Some.name ∷ []))));
      end = refl;
    }

pub returns-clause-names : goal.returns-clause-names
returns-clause-names c =
    let header = map (λ (n : Bor (List ℕ)). n.now) c.args.header.now in
    let wide : length header ≡ length c.args.header.now = length-map c.args.header.now (λ (n : Bor (List ℕ)). n.now) in
    let high : length header ≤ c.loop-column.column = omega (arith, c.loop-column-test.false) in
    c.loop-column.invariant.left ∙ renamed_all c.args.repeated header (map string_bytes c.loop-column.written.items) c.loop-column.column high
