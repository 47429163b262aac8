-- Why a statement of the configuration changed nothing.
use Rattle.std.specs.Prelude.{◌≡◌, Option, None, Some}
use Rattle.machine_meaning.specs.declared.config.ConfigFault.{ConfigFault}
use Rattle.config_core.specs.declared.config.ConfigError.{ConfigError}
use Rattle.config_core.specs.declared.config.ConfigError.TheVariants.{Refused, Memory}

-- it has this fault, or it has none and memory was wanting: what is refused is told as that, whether or not memory is missing
abbrev pub IsRefusal : Option ConfigFault → ConfigError → Type 0
IsRefusal fault (Refused f) = fault ≡ Some f
IsRefusal fault Memory = fault ≡ None
