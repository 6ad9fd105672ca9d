-- The keys of entries: form, version and what the entry begins with.
use Rattle.std.specs.Prelude.{Bool, false, true, ◌&&◌, ◌==◌}
use Rattle.std.specs.Str.{bytes_eq}
use Rattle.savepoints.specs.declared.keys.Key.{Key}
use Rattle.savepoints.specs.declared.keys.KeyBase.{KeyBase}
use Rattle.savepoints.specs.declared.keys.KeyBase.TheVariants.{Blank, Draft, Edit}

abbrev pub same_base : KeyBase → KeyBase → Bool
same_base Blank Blank = true
same_base (Draft number) (Draft other) = number == other
same_base (Edit number) (Edit other) = number == other
same_base _ _ = false

abbrev pub same_key : Key → Key → Bool
same_key key other =
    bytes_eq key.form other.form && (bytes_eq key.version other.version && same_base key.base other.base)
