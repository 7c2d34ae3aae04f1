-- Rule 11: the header is as document 01 has it, root < N, and the length agrees.
use Rattle.std.specs.Prelude.{◌≡◌, Bool, true, ◌&&◌, ◌<◌, ◌≤◌, eqb, leb, ltb}
use Rattle.floor.specs.View.{View}
use Rattle.floor.specs.Layout.{header_size, map_size}

-- the fields, where there is a header
unfoldable pub fields_ok : View → Bool
fields_ok v =
    leb 1 v.count
    && leb v.count 256
    && ltb v.root v.count
    && leb 1 v.height
    && leb v.height 6
    && v.clear
    && eqb v.size (map_size v.count)

unfoldable pub header_ok : View → Bool
header_ok v = leb header_size v.size && fields_ok v

-- the property
pub record HeaderRight (v : View) : Type 0 where
  pub headed : header_size ≤ v.size
  pub some : 1 ≤ v.count
  pub few : v.count ≤ 256
  pub rooted : v.root < v.count
  pub tall : 1 ≤ v.height
  pub low : v.height ≤ 6
  pub clear : v.clear ≡ true
  pub size : v.size ≡ map_size v.count
