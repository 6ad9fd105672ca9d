-- The open elements as levels.
use Rattle.std.specs.Prelude.{List, map, reverse, string_bytes}
use Rattle.rosa_doc.specs.declared.frame.Frame.{Frame}
use Rattle.rosa_doc.specs.Machine.{Level}

abbrev pub level_of : Frame → Level
level_of f = record { tag = f.tag; children = f.children; words = string_bytes f.words }

-- the innermost first
abbrev pub levels_of : List Frame → List Level
levels_of fs = reverse (map level_of fs)
