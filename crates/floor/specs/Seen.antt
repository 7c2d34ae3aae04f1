-- What a map that may be read says: the view of its bytes. The clauses of the code speak of maps by it.
use Rattle.floor.specs.declared.FloorMap.{FloorMap}
use Rattle.floor.specs.View.{View, view_of}

abbrev pub seen : FloorMap → View
seen map = view_of map.bytes.now
