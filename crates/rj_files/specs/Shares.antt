-- About how much of a step of a run is done.
use Rattle.std.specs.Prelude.{ℕ, ◌+◌, ◌-◌, ◌*◌, ◌/◌, ◌^◌, min, if◌then◌else◌, ◌==◌}
use Rattle.std.specs.Int.{div_ceil}
use Rattle.rj_line.specs.declared.request.Request.{Request}
use Rattle.rj_files.specs.declared.progress.Cuts.{Cuts}

-- into what a join cuts its tables, by its settings
abbrev pub cuts_of : Request → Cuts
cuts_of q = record { workers = q.settings.workers; partitions = 2 ^ q.settings.bits1; block = q.settings.block; piece = q.settings.piece }

-- a number that stops at the most that 64 bits hold
abbrev pub bounded : ℕ → ℕ
bounded n = min n (2 ^ 64 - 1)

-- how many parts of this many rows the rows make
abbrev pub parts : ℕ → ℕ → ℕ
parts rows size = if size == 0 then 0 else div_ceil rows size

-- the same share of these rows as this is of all, and never more than there are
abbrev pub share : ℕ → ℕ → ℕ → ℕ
share rows this all = if all == 0 then 0 else min (bounded (rows * this) / all) rows

-- the lists of parcels of all senders: each worker sends rows of either table, and has a list for
-- each partition
abbrev pub lists : Cuts → ℕ
lists c = bounded (bounded (c.workers * 2) * c.partitions)

-- the parcels of all of them: each has the blocks of its rows, and a close
abbrev pub parcels : Cuts → ℕ → ℕ
parcels c rows = bounded (lists c * bounded (parts (parts rows (lists c)) c.block + 1))

-- the rows that were handed to partitions, when this many parcels were posted
abbrev pub handed : Cuts → ℕ → ℕ → ℕ
handed c rows posted = share rows posted (parcels c rows)

-- the rows of a piece of a partition
abbrev pub piece_rows : Cuts → ℕ → ℕ
piece_rows c rows = min (parts rows (bounded (c.workers * 4))) c.piece

-- the rows that were joined, after this many partitions and this many pieces of the next one
abbrev pub joined : Cuts → ℕ → ℕ → ℕ → ℕ
joined c rows behind pieces = min (bounded (share rows behind c.partitions + bounded (pieces * piece_rows c rows))) rows
