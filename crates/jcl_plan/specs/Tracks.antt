-- How many tracks records fill: 32 a track.
use Rattle.std.specs.Prelude.{ℕ, ◌+◌, ◌/◌}

abbrev pub tracks_for : ℕ → ℕ
tracks_for records = (records + 31) / 32
