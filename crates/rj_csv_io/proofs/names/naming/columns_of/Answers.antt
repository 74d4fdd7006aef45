use Rattle.std.proofs.Common.{◌≡◌, ◌∙◌, ◌<◌, ◌≤◌, ◌+◌, ◌++◌, ◌∷◌, [], ℕ, List, Bor, ap, arith, drop, get_or, length, map, subst, sym}
use Rattle.std.proofs.lemmas.List.{length-append, length-map, map-append}
use Rattle.rj_csv_io.specs.Internal.NameColumns.{column_in, columns_in}
use Rattle.rj_csv_io.specs.Named as names
use Rattle.rj_csv_io.specs.declared.names.column.NamedColumn.{NamedColumn}
use Rattle.rj_csv_io.proofs.NamingFacts.{columns-all, columns-more, fields-size, no_field}
use Rattle.rj_csv_io.proofs.names.naming.columns_of.Goals as goal

pub loop-field-preserved : goal.loop-field-preserved
loop-field-preserved c =
    let fields = map (λ (t : Bor (List ℕ)). t.now) c.args.fields.now in
    let done = c.loop-field.columns.items in
    let i = c.loop-field._field in
    let within : i < length c.args.fields.now = omega arith in
    let inside : i < length fields = subst (λ (n : ℕ). i < n) (sym (fields-size c.args.fields.now i no_field within)) within in
    let next : column_in c.in_ok-column.column ≡ names.column_of fields (columns_in done) (get_or fields i []) =
    c.in_ok-column.ensures
    ∙ (ap (λ (cs : List NamedColumn). names.column_of fields (columns_in cs) (get_or fields (length cs) [])) c.as_slice.ensures.value
    ∙ ap (λ (n : ℕ). names.column_of fields (columns_in done) (get_or fields n [])) c.loop-field.invariant.count) in
    let longer : columns_in c.push.new.self.items ≡ columns_in done ++ column_in c.in_ok-column.column ∷ [] =
    ap columns_in c.in_ok-push.ensures.items ∙ map-append column_in done (c.in_ok-column.column ∷ []) in
    record {
      told = ap (λ (cs : List names.Column). names.columns_after fields cs (drop (i + 1) fields)) longer
          ∙ (sym (columns-more fields (columns_in done) i (column_in c.in_ok-column.column) inside next) ∙ c.loop-field.invariant.told);
      count = ap length c.in_ok-push.ensures.items ∙ (length-append done (c.in_ok-column.column ∷ []) ∙ ap (λ (n : ℕ). n + 1) c.loop-field.invariant.count);
      end = c.loop-field.invariant.end;
    }

pub returns : goal.returns
returns c =
    let fields = map (λ (t : Bor (List ℕ)). t.now) c.args.fields.now in
    let over : length c.args.fields.now ≤ c.loop-field._field = omega arith in
    let size : length fields ≡ length c.args.fields.now = length-map c.args.fields.now (λ (t : Bor (List ℕ)). t.now) in
    sym (columns-all fields (columns_in c.loop-field.columns.items) c.loop-field._field (subst (λ (n : ℕ). n ≤ c.loop-field._field) (sym size) over)) ∙ c.loop-field.invariant.told
