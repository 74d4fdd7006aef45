-- The numbers of a run.
use Rattle.std.specs.Prelude.{◌≡◌, ℕ, ◌<◌, ◌≤◌}
use Rattle.rj_exchange.specs.declared.boxes.Exchange.{Exchange}
use Rattle.rj_exchange.specs.declared.stripes.Stripes.{Stripes}
use Rattle.rj_exchange.specs.Stripes.{stripes_of}
use Rattle.rj_workers.specs.declared.settings.WorkerSettings.{WorkerSettings}
use Rattle.rj_workers.specs.declared.shared.Shared.{Shared}

-- 1 to 64 workers, 1 to 1,024 partitions, blocks of at least one row, 1 to 4 lanes, queues of 1 to 4,096 parcels
pub record InLimits (workers partitions block lanes capacity : ℕ) : Type 0 where
  pub some_worker : 1 ≤ workers
  pub workers_most : workers ≤ 64
  pub partitions_most : partitions ≤ 1024
  pub some_row : 1 ≤ block
  pub some_lane : 1 ≤ lanes
  pub lanes_most : lanes ≤ 4
  pub some_room : 1 ≤ capacity
  pub room_most : capacity ≤ 4096

-- a job of this many stripes and partitions can be scanned with this exchange, these stripes and
-- numbers
pub record IsReadyOf (stripes partitions : ℕ) (e : Exchange) (st : Stripes) (settings : WorkerSettings) : Type 0 where
  pub some_row : 0 < settings.block
  pub workers_most : settings.workers ≤ 64
  pub drawn : stripes_of st ≡ settings.workers
  pub scanned : stripes ≡ settings.workers
  pub parted : partitions ≡ e.partitions

abbrev pub IsReady : {J G : Type 0} → ℕ → ℕ → Shared J G → Type 0
IsReady stripes partitions f = IsReadyOf stripes partitions f.exchange.now f.stripes.now f.settings
