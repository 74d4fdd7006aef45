-- What clauses know of a writer or a reader of std whose failures are counted.
use Rattle.std.specs.Prelude.{◌≡◌, ◌≢◌, ◌+◌, ◌-◌, ◌^◌, ℕ, Err, Result, min}
use Rattle.rj_csv_io.specs.declared.input.CountedReader.{CountedReader}
use Rattle.rj_csv_io.specs.declared.output.CountedWriter.{CountedWriter}
use Rattle.rj_csv_io.specs.declared.retrying.RetryingReader.{RetryingReader}

-- the writer
abbrev pub writer_of : {W : Type 0} → CountedWriter W → W
writer_of c = c.writer

-- how often it failed
abbrev pub write_failures_of : {W : Type 0} → CountedWriter W → ℕ
write_failures_of c = c.failures

-- the reader
abbrev pub reader_of : {R : Type 0} → CountedReader R → R
reader_of c = c.reader

-- how often it failed
abbrev pub read_failures_of : {R : Type 0} → CountedReader R → ℕ
read_failures_of c = c.failures

-- about how many bytes it will give, as it was set
abbrev pub likely_size_of : {R : Type 0} → CountedReader R → ℕ
likely_size_of c = c.likely_size

-- how often a device has failed after one failure more, as far as 64 bits count
abbrev pub after_failure : ℕ → ℕ
after_failure count = min (count + 1) (2 ^ 64 - 1)

-- after a call that may end with a failure of a device: the device's count has one failure more with that fault, and else it is as before
abbrev pub CountsFailure : {T F : Type 0} → Result T F → F → ℕ → ℕ → Type 0
CountsFailure result fault after before = (result ≡ Err fault → after ≡ after_failure before) × (result ≢ Err fault → after ≡ before)

-- the reader whose interrupted reads are repeated
abbrev pub reader_retried : {R : Type 0} → RetryingReader R → R
reader_retried r = r.reader
