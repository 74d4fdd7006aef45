use Rattle.std.proofs.Common.{List, refl, rules, subst, sym, ℕ}
use Rattle.std.specs.Prelude.{IfSome}
use Rattle.std.proofs.lemmas.Result.{IfErr-weaker, IfOk-weaker}
use Rattle.shards.specs.Cuts.{HasCutFailure, HasCutLines, IsCutsFailure, of_cuts, of_file, of_head, of_none, of_output, of_text}
use Rattle.shards.specs.Outputs.{printed_in}
use Rattle.shards.specs.declared.cutting.CutText.{CutText}
use Rattle.shards.specs.declared.failure.Failure.TheVariants.{Told}
use Rattle.shards.proofs.CutFacts.{cut-fault, cut-text, cut-told}
use Rattle.shards.proofs.cutting.print_cuts.Goals as goal

pub returns-in-Err : goal.returns-in-Err
returns-in-Err g c =
    let holds = g.S.Storage.holds c.args.storage.now in
    record {
      cutting = tt;
      failure = of_head c.in-Err.fault (cut-fault holds c.args.line.now c.operand-own.result.now c.operand-own.ensures c.in-Err.fault c.in-Err.ensures.fault) refl;
    }

pub returns-in-Err-NoHeader-clause-cutting : goal.returns-in-Err-NoHeader-clause-cutting
returns-in-Err-NoHeader-clause-cutting g c =
    let holds = g.S.Storage.holds c.args.storage.now in
    let none = rw c.in-Err-NoHeader.field-0-is at c.in-Err-NoHeader.ensures.fault in
    of_none c.in-Err-NoHeader.field-0-0 (cut-fault holds c.args.line.now c.operand-own.result.now c.operand-own.ensures _ none) refl

pub returns-in_err-end-clause-failure : goal.returns-in_err-end-clause-failure
returns-in_err-end-clause-failure g c =
    let holds = g.S.Storage.holds c.args.storage.now in
    let old = printed_in g.O.Output.told g.O.Output.count c.args.output.now in
    let told : IsCutsFailure holds c.args.line.now c.args.ranges old old (Told c.in_err-end.field-0.0) = of_file c.in_err-end.field-0.0 c.in_err-end.ensures.fault refl in
    search (rules, told)

pub returns-in_err-input-clause-failure : goal.returns-in_err-input-clause-failure
returns-in_err-input-clause-failure g c =
    let holds = g.S.Storage.holds c.args.storage.now in
    let old = printed_in g.O.Output.told g.O.Output.count c.args.output.now in
    let told : IsCutsFailure holds c.args.line.now c.args.ranges old old (Told c.in_err-input.field-0.0) = of_file c.in_err-input.field-0.0 c.in_err-input.ensures.fault refl in
    search (rules, told)

pub returns-in_err-text-clause-failure : goal.returns-in_err-text-clause-failure
returns-in_err-text-clause-failure g c =
    let holds = g.S.Storage.holds c.args.storage.now in
    let l = c.args.line.now in
    let own = c.operand-own.result.now in
    let cut = cut-text holds l own c.operand-own.ensures c.args.ranges c.in_ok-end.end c.in-Ok.head c.in-Ok.ensures.head c.in_ok-end.ensures.size in
    let old = printed_in g.O.Output.told g.O.Output.count c.args.output.now in
    let told : IsCutsFailure holds l c.args.ranges old old c.in_err-text.field-0.0 =
    of_cuts _ c.in_err-text.field-0.0 cut
    (cut-told holds l own c.operand-own.ensures c.in-Ok.head.begin (g.S.Reader.Input.tells c.in_ok-input.input) (λ text. HasCutFailure l.side text c.in_err-text.field-0.0) c.in_ok-input.ensures.bytes c.in_err-text.ensures.failure) refl in
    search (rules, told)

pub returns-clause-cutting : goal.returns-clause-cutting
returns-clause-cutting g c =
    let holds = g.S.Storage.holds c.args.storage.now in
    let l = c.args.line.now in
    let own = c.operand-own.result.now in
    let text_cut : CutText = record { side = l.side; delimiter = own.delimiter; ranges = c.args.ranges; begin = c.in-Ok.head.begin; end = c.in_ok-end.end } in
    let cut = cut-text holds l own c.operand-own.ensures c.args.ranges c.in_ok-end.end c.in-Ok.head c.in-Ok.ensures.head c.in_ok-end.ensures.size in
    IfOk-weaker c.print_text.result _ _ (λ _ printed.
    of_text text_cut c.as_str.result.now cut
    (cut-told holds l own c.operand-own.ensures c.in-Ok.head.begin (g.S.Reader.Input.tells c.in_ok-input.input) (λ text. HasCutLines text_cut text c.as_str.result.now) c.in_ok-input.ensures.bytes
    (subst (λ (b : List ℕ). IfSome (g.S.Reader.Input.tells c.in_ok-input.input) (λ text. HasCutLines text_cut text b)) (sym c.as_str.ensures.value) c.in_ok-text.ensures.lines)) printed) c.print_text.ensures.printed

pub returns-clause-failure : goal.returns-clause-failure
returns-clause-failure g c =
    IfErr-weaker c.print_text.result _ _ (λ e is. of_output e is) c.print_text.ensures.fault
