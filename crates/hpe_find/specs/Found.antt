-- What a finder answers.
use Rattle.hpe_base.specs.MarkerSearch.{Offset, Short, Dark, At}
use Rattle.hpe_find.specs.declared.finder.Found.{Found}
use Rattle.hpe_find.specs.declared.finder.Found.TheVariants as found

-- what the search finds, as an answer
abbrev pub found_of : Offset → Found
found_of Short = found.Short
found_of Dark = found.Dark
found_of (At offset best) = found.At offset best
