-- A badge is a 32-bit set of zones: one to eight zones, or all 32 for service.
use Rattle.std.specs.Prelude.{Bool, ◌&&◌, ◌||◌, ℕ, ◌/◌, ◌%◌, ◌^◌, eqb, leb, ltb}
use Rattle.std.specs.Int.Count.{ones}

abbrev pub all_zones : ℕ
all_zones = 4294967295

abbrev pub zone_limit : ℕ
zone_limit = 8

-- bit z of the badge is set
unfoldable pub on_badge : ℕ → ℕ → Bool
on_badge bits zone = ltb zone 32 && eqb (bits / 2 ^ zone % 2) 1

unfoldable pub badge_ok : ℕ → Bool
badge_ok bits = leb 1 (ones bits) && leb (ones bits) zone_limit || eqb bits all_zones
