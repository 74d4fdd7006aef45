-- The limits of the settings of a join.
use Rattle.std.specs.Prelude.{ℕ, Bool, ◌&&◌, nat_le}

abbrev pub between : ℕ → ℕ → ℕ → Bool
between low high n = nat_le low n && nat_le n high

-- 1 to 64 workers, up to 10 bits in each pass, blocks of 1 to 65,536 rows, 1 to 4 lanes, queues of 1 to 4,096 parcels, up to 3 retries
abbrev pub in_limits : ℕ → ℕ → ℕ → ℕ → ℕ → ℕ → ℕ → Bool
in_limits workers bits1 bits2 block lanes capacity retries =
    between 1 64 workers && between 0 10 bits1 && between 0 10 bits2 && between 1 65536 block
    && between 1 4 lanes && between 1 4096 capacity && between 0 3 retries

-- pieces of 1 to 1,048,576 rows
abbrev pub is_piece : ℕ → Bool
is_piece piece = between 1 1048576 piece
