use Rattle.std.proofs.Common.{◌≡◌, ◌∙◌, Err, ap, refl, rules, sym, subst}
use Rattle.std.specs.Prelude.{IfErr, Result}
use Rattle.rj_csv_io.specs.declared.write.WriteRefused.{WriteRefused}
use Rattle.rj_csv_io.specs.declared.write.WriteRefused.TheVariants as refused
use Rattle.rj_line.specs.Faults.{write_fault}
use Rattle.rj_line.specs.declared.fault.Fault.{Fault}
use Rattle.rj_command.specs.Runs.{IsUnwritten}
use Rattle.rj_command.proofs.PreparedFacts.{never_failed, ready_of, taken, unwritten_by, unwritten_of}
use Rattle.rj_command.proofs.join.running.write_joined.Goals as goal

pub returns-in-Err-clause-fault : goal.returns-in-Err-clause-fault
returns-in-Err-clause-fault g c = unwritten_of c.args.request.now c.args.operands c.in-Err.fault c.in-Err.ensures.fault

pub returns-in-Err-clause-failed : goal.returns-in-Err-clause-failed
returns-in-Err-clause-failed g c = never_failed c.args.request.now c.args.operands c.in-Err.fault (Err c.in-Err.fault) refl c.in-Err.ensures.fault

pub returns-in-Err-clause-taken : goal.returns-in-Err-clause-taken
returns-in-Err-clause-taken g c = λ any named.
    let q = c.args.request.now in
    let o = c.args.operands in
    taken q o c.in-Err.fault c.requires.apart c.requires.null any named (unwritten_of q o c.in-Err.fault c.in-Err.ensures.fault)

pub returns-in-Ok-write_chosen-clause-ok : goal.returns-in-Ok-write_chosen-clause-ok
returns-in-Ok-write_chosen-clause-ok g c = (ready_of _ _ c.in-Ok.prepared c.in-Ok.ensures.prepared, c.in-Ok-write_chosen.ensures.ok)

pub returns-in-Err-write_chosen-clause-fault : goal.returns-in-Err-write_chosen-clause-fault
returns-in-Err-write_chosen-clause-fault g c =
    let q = c.args.request.now in
    let o = c.args.operands in
    subst (λ (f : Fault). IsUnwritten q o f) (sym c.from.ensures) (unwritten_by q o c.in-Err-write_chosen.refused)

pub returns-in-Err-write_chosen-clause-failed : goal.returns-in-Err-write_chosen-clause-failed
returns-in-Err-write_chosen-clause-failed g c = λ failed.
    let p = c.in-Ok.prepared in
    (p.stats, ready_of _ _ p c.in-Ok.ensures.prepared)

pub returns-in-Err-write_chosen-clause-count : goal.returns-in-Err-write_chosen-clause-count
returns-in-Err-write_chosen-clause-count g c = (
  search rules,
  λ other. c.in-Err-write_chosen.ensures.count.1 (λ same.
      let device : c.in-Err-write_chosen.refused ≡ refused.WriteDevice
      = subst (λ (w : Result (Unit {0}) WriteRefused). IfErr w (λ x. x ≡ refused.WriteDevice)) (sym same) refl in
      other (ap Err (c.from.ensures ∙ ap write_fault device))),
)

pub returns-in-Err-write_chosen-clause-taken : goal.returns-in-Err-write_chosen-clause-taken
returns-in-Err-write_chosen-clause-taken g c = λ any named.
    let q = c.args.request.now in
    let o = c.args.operands in
    let told : IsUnwritten q o c.from.result
    = subst (λ (f : Fault). IsUnwritten q o f) (sym c.from.ensures) (unwritten_by q o c.in-Err-write_chosen.refused) in
    taken q o c.from.result c.requires.apart c.requires.null any named told
