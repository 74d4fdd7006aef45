use Rattle.std.proofs.Common.{arith, codes}
use Rattle.clap.specs.Words.{first_value, found_of}
use Rattle.rj_line.proofs.LimitFacts.{all_between, number_between}
use Rattle.rj_line.proofs.line.settings_of.Goals as goal

pub invariant_of-result : goal.invariant_of-result
invariant_of-result c = record {
  limits = all_between c.number_or.result c.number_or-2.result c.number_or-3.result c.number_or-4.result c.number_or-5.result c.number_or-6.result c.number_or-7.result
      (number_between 1 64 c.args.workers (first_value (found_of c.args.matches.now) (codes "workers")) c.number_or.result c.requires.some c.requires.few c.requires.numbers.workers c.number_or.ensures)
      (number_between 0 10 4 (first_value (found_of c.args.matches.now) (codes "bits1")) c.number_or-2.result (omega arith) (omega arith) c.requires.numbers.bits1 c.number_or-2.ensures)
      (number_between 0 10 0 (first_value (found_of c.args.matches.now) (codes "bits2")) c.number_or-3.result (omega arith) (omega arith) c.requires.numbers.bits2 c.number_or-3.ensures)
      (number_between 1 65536 1024 (first_value (found_of c.args.matches.now) (codes "block")) c.number_or-4.result (omega arith) (omega arith) c.requires.numbers.block c.number_or-4.ensures)
      (number_between 1 4 1 (first_value (found_of c.args.matches.now) (codes "lanes")) c.number_or-5.result (omega arith) (omega arith) c.requires.numbers.lanes c.number_or-5.ensures)
      (number_between 1 4096 64 (first_value (found_of c.args.matches.now) (codes "capacity")) c.number_or-6.result (omega arith) (omega arith) c.requires.numbers.capacity c.number_or-6.ensures)
      (number_between 0 3 1 (first_value (found_of c.args.matches.now) (codes "retries")) c.number_or-7.result (omega arith) (omega arith) c.requires.numbers.retries c.number_or-7.ensures);
  piece_limits = number_between 1 1048576 65536 (first_value (found_of c.args.matches.now) (codes "piece")) c.number_or-8.result (omega arith) (omega arith) c.requires.numbers.piece c.number_or-8.ensures;
}
