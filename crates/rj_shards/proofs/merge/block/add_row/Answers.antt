use Rattle.std.proofs.Common.{◌≡◌, ◌++◌, true, rules}
use Rattle.std.specs.Result.{is_ok}
use Rattle.csv.specs.Writing.{row_text}
use Rattle.rj_csv_io.proofs.WriteFacts.{ok-holds}
use Rattle.rj_csv_io.specs.Shown.{writer_of}
use Rattle.rj_shards.proofs.WrittenFacts.{on-ok, told-all, told-more}
use Rattle.rj_shards.proofs.merge.block.add_row.Goals as goal

pub returns-then-len-lt-BLOCK-clause-told : goal.returns-then-len-lt-BLOCK-clause-told
returns-then-len-lt-BLOCK-clause-told g c = λ start text t.
    let d = c.args.delimiter in
    let good : is_ok c.write.result ≡ true = search rules in
    told-more d start text (row_text (writer_of d) c.args.row.now) c.args.block.now c.write.new.writer _ t (λ kept h. ok-holds c.write.result good (c.write.ensures d kept h))

pub returns-clause-told : goal.returns-clause-told
returns-clause-told g c = λ start text t.
    let d = c.args.delimiter in
    let good : is_ok c.write.result ≡ true = search rules in
    let row = row_text (writer_of d) c.args.row.now in
    let more = told-more d start text row c.args.block.now c.write.new.writer _ t (λ kept h. ok-holds c.write.result good (c.write.ensures d kept h)) in
    on-ok c.put_block.result (c.put_block.ensures.told start (text ++ row) more) (λ p. told-all d start (text ++ row) c.put_block.new.block (g.O.Output.told c.put_block.new.output) p.0 p.1)
