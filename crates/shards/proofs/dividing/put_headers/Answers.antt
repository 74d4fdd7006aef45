use Rattle.std.proofs.Common.{List, Err, ap, length, map, subst, sym, ℕ}
use Rattle.std.proofs.lemmas.List.{length-map}
use Rattle.rj_shards.specs.Headers.{HaveTextBefore, IsHeaderFault, header_text}
use Rattle.shards.specs.Ranges.{place_name, range_header}
use Rattle.shards.specs.declared.failure.Failure.TheVariants.{Told}
use Rattle.shards.proofs.RangeFacts.{header-before}
use Rattle.shards.proofs.dividing.put_headers.Goals as goal

pub returns-in-Err-clause-fault : goal.returns-in-Err-clause-fault
returns-in-Err-clause-fault g c =
    let range = c.args.range.now in
    let told = g.O.Output.told in
    let before = map told c.args.outputs.now in
    let after = map told c.write_headers.new.outputs in
    let e = c.in-Err.refused in
    let why = subst (λ (name : List ℕ). IsHeaderFault range.own.now name (length c.args.outputs.now) e) c.place_name.ensures c.in-Err.ensures.fault in (
      e,
      ap Told c.fault_of_division.ensures,
      subst (λ n. IsHeaderFault range.own.now (place_name range.line.now.side) n e) (sym (length-map c.args.outputs.now told)) why,
      header-before (range_header range) before after e
          (λ p is. subst (λ (name : List ℕ). HaveTextBefore p (header_text range.own.now name) before after) c.place_name.ensures (c.in-Err.ensures.before p (ap Err is)))
          (λ none. ap (map told) (c.in-Err.ensures.untouched none)),
    )
