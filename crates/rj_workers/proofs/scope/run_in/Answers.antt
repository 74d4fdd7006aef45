use Rattle.std.proofs.Common.{◌<◌, ℕ, List, length, get_or, ◌∙◌, subst, arith}
use Rattle.rj_workers.specs.declared.scan.Scanner.{Scanner}
use Rattle.rj_workers.specs.declared.shared.Shared.{Shared}
use Rattle.rj_workers.specs.declared.take.Taker.{Taker}
use Rattle.rj_workers.specs.Internal.Scans.{IsScan}
use Rattle.rj_workers.specs.Internal.Takes.{IsTake}
use Rattle.rj_workers.proofs.Parts.{through}
use Rattle.rj_workers.proofs.scope.run_in.Goals as goal

pub returns : goal.returns
returns g c =
    let h = c.requires.workers in record {
      scanned = (
          let j = c.in_ok-scanned.ensures in let st = c.in_ok-scanners.ensures in let hs = c.in_ok-scanners.scanners.items in
          let rs : List Scanner = c.in_ok-scanned.scanned.items in (
            j.len ∙ st.len ∙ h.scanning.0,
            λ s d ol.
                let m = h.scanning.0 in let lt : s < length c.args.workers.scanners.items = omega arith in
                let n = st.len in let below : s < length hs = omega arith in let k = (j.each s d below).1 in let f = st.each s k.handle lt in let r : Scanner = get_or rs s d in
                let a = through hs s k.handle k.handle_is (λ z. z.promise.shared) c.args.shared.now f.0 in
                let b = through hs s k.handle k.handle_is (λ z. z.promise.number) s f.1 in
                subst (λ (z : Shared g.row.J.Denot g.row.G.Denot × ℕ). IsScan (g.J.Job.due z.0.job.now) z.0 z.1 r) (λ i. (a i, b i)) k.kept,
          )
          );
      taken = (
          let j = c.in_ok-taken.ensures in let st = c.in_ok-takers.ensures in let hs = c.in_ok-takers.takers.items in
          let rs : List (Taker _) = c.in_ok-taken.taken.items in (
            j.len ∙ st.len ∙ h.many,
            λ s d lt.
                let n = j.len in let below : s < length hs = omega arith in let k = (j.each s d below).1 in let f = st.each s k.handle below in let r : Taker _ = get_or rs s d in
                let a = through hs s k.handle k.handle_is (λ z. z.promise.shared) c.args.shared.now f in
                subst (λ (z : Shared g.row.J.Denot g.row.G.Denot). IsTake (g.J.Job.builds z.job.now) z r) a k.kept,
          )
          );
    }
