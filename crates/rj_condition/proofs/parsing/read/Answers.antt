use Rattle.std.proofs.Common.{◌≡◌, ◌≤◌, ◌∙◌, Err, ap, sym, arith, length, false}
use Rattle.rj_condition.specs.Nesting.{is_deep}
use Rattle.rj_condition.specs.Internal.Reading.{clause_at}
use Rattle.rj_condition.proofs.Answer.{found, left_within, not_found, stop_byte}
use Rattle.rj_condition.proofs.parsing.read.Goals as goal

pub returns-in-Ok : goal.returns-in-Ok
returns-in-Ok c =
    let within : length c.args.text.now ≤ 65536 = omega arith in
    let flat : is_deep c.in_ok-lexed.lexed.tokens ≡ false = sym (ap is_deep c.as_slice.ensures) ∙ sym c.in_ok-too_deep.ensures ∙ c.if-branch.false in
    found c.args.text.now c.in_ok-lexed.lexed.tokens c.in-Ok.clause within c.in_ok-lexed.ensures.tokens flat (ap clause_at (sym c.as_slice-2.ensures) ∙ c.in-Ok.ensures)

pub fault_byte-requires : goal.fault_byte-requires
fault_byte-requires c =
    let stopped : clause_at c.as_slice-2.result.now ≡ Err c.in-Err-Syntax.left = rw c.in-Err-Syntax.field-0-is at c.in-Err-Syntax.ensures in
    rw c.as_slice-in-Err-Syntax.ensures.value
    (left_within c.args.text.now c.in_ok-lexed.lexed.tokens c.in_ok-lexed.lexed.starts.items c.in-Err-Syntax.left c.in_ok-lexed.ensures.starts
    (ap clause_at (sym c.as_slice-2.ensures) ∙ stopped))

pub returns : goal.returns
returns c =
    let text = c.args.text.now in
    let ts = c.in_ok-lexed.lexed.tokens in
    let starts = c.in_ok-lexed.lexed.starts.items in
    let left = c.in-Err-Syntax.left in
    let within : length text ≤ 65536 = omega arith in
    let flat : is_deep ts ≡ false = sym (ap is_deep c.as_slice.ensures) ∙ sym c.in_ok-too_deep.ensures ∙ c.if-branch.false in
    let stopped : clause_at c.as_slice-2.result.now ≡ Err left = rw c.in-Err-Syntax.field-0-is at c.in-Err-Syntax.ensures in
    let none : clause_at ts ≡ Err left = ap clause_at (sym c.as_slice-2.ensures) ∙ stopped in
    let byte = rw c.as_slice-in-Err-Syntax.ensures.value at c.fault_byte.ensures in (
      not_found text ts left within c.in_ok-lexed.ensures.tokens flat none,
      stop_byte text ts starts left c.fault_byte.result c.in_ok-lexed.ensures.starts none byte,
    )
