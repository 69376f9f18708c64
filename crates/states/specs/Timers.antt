-- The times of a router, in ticks of 1/256 second (01, 'Time').
use Rattle.std.specs.Prelude.{ℕ, ◌+◌, ◌-◌, ◌*◌}

-- "Skew = 256 - P ticks"
unfoldable pub skew_of : ℕ → ℕ
skew_of priority = 256 - priority

-- "Master down interval = 768 x A + 256 - P ticks"
unfoldable pub master_down_of : ℕ → ℕ → ℕ
master_down_of priority interval = 768 * interval + 256 - priority

-- "Advertisement interval = 256 x A ticks"
unfoldable pub advertisement_interval_of : ℕ → ℕ
advertisement_interval_of interval = 256 * interval
