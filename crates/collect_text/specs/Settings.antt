-- The answer that says how the device is set.
use Rattle.std.specs.Prelude.{ℕ, List, ◌++◌, Bool, true, false, codes}
use Rattle.field_text.specs.declared.mode.Mode.{Mode}
use Rattle.field_text.specs.declared.mode.Mode.TheVariants.{Manual, Previous, Exact}
use Rattle.device_state.specs.declared.state.Settings.{Settings}

abbrev pub mode_word : Mode → List ℕ
mode_word Manual = codes "manual"
mode_word Previous = codes "previous"
mode_word Exact = codes "exact"

abbrev pub switch_word : Bool → List ℕ
switch_word true = codes "on"
switch_word false = codes "off"

abbrev pub settings_text : Settings → List ℕ
settings_text settings =
    codes "settings mode " ++ mode_word settings.mode ++ codes " autosend " ++ switch_word settings.auto_send
