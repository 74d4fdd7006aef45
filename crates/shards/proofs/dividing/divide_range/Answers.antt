use Rattle.std.proofs.Common.{◌∙◌, ap, map, refl, subst}
use Rattle.std.proofs.lemmas.List.{length-map}
use Rattle.std.proofs.lemmas.Result.{IfErr-weaker}
use Rattle.csv.proofs.WriteFacts.{on_ok_both}
use Rattle.rj_csv_io.specs.Pieces.{names_in}
use Rattle.rj_settings.specs.Columns.{types_under}
use Rattle.shards.specs.Lines.{operand_of}
use Rattle.shards.specs.Outputs.{printed_in}
use Rattle.shards.specs.Plans.{IsRangeFailure, IsRangeOf, of_own, of_parts}
use Rattle.shards.specs.Ranges.{IsOfFolder, mixed_shard, range_file}
use Rattle.shards.specs.declared.dividing.Range.{Range}
use Rattle.shards.proofs.PlanFacts.{looked, range-is, written-null}
use Rattle.shards.proofs.RangeFacts.{begun-by-own}
use Rattle.shards.proofs.dividing.divide_range.Goals as goal

pub returns-in-Err-clause-failure : goal.returns-in-Err-clause-failure
returns-in-Err-clause-failure g c = of_own c.in-Err.failure c.in-Err.ensures.failure (ap (map g.S.Part.Output.told) c.new.ensures.items) refl

pub divide_among_parts-requires-clause-null : goal.divide_among_parts-requires-clause-null
divide_among_parts-requires-clause-null g c =
    written-null c.args.line.now c.as_slice-nulls.result.now c.operand-own.result.now c.in-Ok.ensures.lawful c.operand-own.ensures c.as_slice-nulls.ensures.value

pub failure_of_range-failure-requires-clause-null : goal.failure_of_range-failure-requires-clause-null
failure_of_range-failure-requires-clause-null g c =
    written-null c.args.line.now c.as_slice-nulls.result.now c.operand-own.result.now c.in-Ok.ensures.lawful c.operand-own.ensures c.as_slice-nulls.ensures.value

pub divide_among_parts-requires-clause-table : goal.divide_among_parts-requires-clause-table
divide_among_parts-requires-clause-table g c =
    begun-by-own (names_in c.in-Ok.own.0.header) (types_under (operand_of c.args.line.now c.args.line.now.side).types.items (names_in c.in-Ok.own.0.header)) c.as_slice-types.result.now c.in-Ok.own.1 c.in-Ok.ensures.table
    (c.as_slice-types.ensures.value ∙ c.in-Ok.ensures.types)

pub failure_of_range-failure-requires-clause-table : goal.failure_of_range-failure-requires-clause-table
failure_of_range-failure-requires-clause-table g c =
    begun-by-own (names_in c.in-Ok.own.0.header) (types_under (operand_of c.args.line.now c.args.line.now.side).types.items (names_in c.in-Ok.own.0.header)) c.as_slice-types.result.now c.in-Ok.own.1 c.in-Ok.ensures.table
    (c.as_slice-types.ensures.value ∙ c.in-Ok.ensures.types)

pub returns-in-Ok-plan-clause-division : goal.returns-in-Ok-plan-clause-division
returns-in-Ok-plan-clause-division g c =
    let holds = g.S.Storage.holds c.args.storage.now in
    let l = c.args.line.now in
    let own = c.operand-own.result.now in
    let lawful = c.in-Ok.ensures.lawful in
    let range : Range = record {
      line = c.args.line;
      head = record { ref_ptr = (0, 0); now = c.in-Ok.own.0 };
      own = record { ref_ptr = (0, 0); now = c.in-Ok.own.1 };
      types = c.as_slice-types.result;
      nulls = c.as_slice-nulls.result;
      delimiter = own.delimiter;
      from = c.min-from.result;
      to = c.args.bounds.to;
    } in
    let is : IsRangeOf holds l c.args.bounds range =
    range-is holds l c.args.bounds own range c.operand-own.ensures refl c.in-Ok.ensures.head c.in-Ok.ensures.table (c.as_slice-types.ensures.value ∙ c.in-Ok.ensures.types) c.as_slice-nulls.ensures.value refl c.min-from.ensures refl in
    let columns = c.in-Ok-plan.plan.1.items in
    on_ok_both c.divide_among_parts.result.0 (λ count divided. record {
      lawful = lawful;
      range = range;
      is = is;
      columns = columns;
      keys = c.in-Ok-plan.ensures.keys;
      count = length-map c.divide_among_parts.result.1.items g.S.Part.Output.told ∙ (count ∙ c.in-Ok-plan.ensures.parts);
      divided = record {
        rows = divided.rows;
        counted = divided.counted;
        parted = rw c.in-Ok-plan.ensures.parts at divided.parted;
        printed = divided.printed;
      };
    }) c.divide_among_parts.ensures.count c.divide_among_parts.ensures.divided

pub returns-in-Ok-plan-clause-failure : goal.returns-in-Ok-plan-clause-failure
returns-in-Ok-plan-clause-failure g c =
    let holds = g.S.Storage.holds c.args.storage.now in
    let l = c.args.line.now in
    let own = c.operand-own.result.now in
    let lawful = c.in-Ok.ensures.lawful in
    let range : Range = record {
      line = c.args.line;
      head = record { ref_ptr = (0, 0); now = c.in-Ok.own.0 };
      own = record { ref_ptr = (0, 0); now = c.in-Ok.own.1 };
      types = c.as_slice-types.result;
      nulls = c.as_slice-nulls.result;
      delimiter = own.delimiter;
      from = c.min-from.result;
      to = c.args.bounds.to;
    } in
    let is : IsRangeOf holds l c.args.bounds range =
    range-is holds l c.args.bounds own range c.operand-own.ensures refl c.in-Ok.ensures.head c.in-Ok.ensures.table (c.as_slice-types.ensures.value ∙ c.in-Ok.ensures.types) c.as_slice-nulls.ensures.value refl c.min-from.ensures refl in
    let columns = c.in-Ok-plan.plan.1.items in
    let told = map g.S.Part.Output.told c.divide_among_parts.result.1.items in
    let old = printed_in g.O.Output.told g.O.Output.count c.args.output.now in
    let new = printed_in g.O.Output.told g.O.Output.count c.divide_among_parts.new.output in
    let tells = g.S.Storage.tells_parts c.args.storage.now c.args.folder.now in
    let parts = c.in-Ok-plan.plan.0.parts in
    IfErr-weaker c.divide_among_parts.result.0 (IsOfFolder tells (range_file holds range) (mixed_shard parts columns) range parts told old new) (IsRangeFailure holds tells l c.args.bounds told old new) (λ e why.
    of_parts range columns e lawful is c.in-Ok-plan.ensures.keys
    (subst (λ n. IsOfFolder tells (range_file holds range) (mixed_shard n columns) range n told old new e) c.in-Ok-plan.ensures.parts why)) c.divide_among_parts.ensures.fault

pub returns-clause-failure : goal.returns-clause-failure
returns-clause-failure g c =
    let holds = g.S.Storage.holds c.args.storage.now in
    let l = c.args.line.now in
    let own = c.operand-own.result.now in
    let lawful = c.in-Ok.ensures.lawful in
    let range : Range = record {
      line = c.args.line;
      head = record { ref_ptr = (0, 0); now = c.in-Ok.own.0 };
      own = record { ref_ptr = (0, 0); now = c.in-Ok.own.1 };
      types = c.as_slice-types.result;
      nulls = c.as_slice-nulls.result;
      delimiter = own.delimiter;
      from = c.min-from.result;
      to = c.args.bounds.to;
    } in
    let is : IsRangeOf holds l c.args.bounds range =
    range-is holds l c.args.bounds own range c.operand-own.ensures refl c.in-Ok.ensures.head c.in-Ok.ensures.table (c.as_slice-types.ensures.value ∙ c.in-Ok.ensures.types) c.as_slice-nulls.ensures.value refl c.min-from.ensures refl in
    looked holds (g.S.Storage.tells_parts c.args.storage.now c.args.folder.now) l c.args.bounds range c.in-Err-plan.failure c.failure_of_range-failure.result _ _ _ lawful is c.in-Err-plan.ensures.fault c.failure_of_range-failure.ensures
    (ap (map g.S.Part.Output.told) c.new-in-Err-plan.ensures.items)
