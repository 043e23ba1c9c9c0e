-- A reading and a typing error as loading errors.
use Rattle.tables.specs.declared.check.CheckError.{CheckError}
use Rattle.tables.specs.declared.check.CheckError.TheVariants as check
use Rattle.tables.specs.declared.place.TableRule.{TableRule}
use Rattle.typing.specs.declared.rule.TypingRule.{TypingRule}
use Rattle.loading.specs.declared.load.LoadError.{LoadError}
use Rattle.loading.specs.declared.load.LoadError.TheVariants.{NoMemory, Refused}
use Rattle.loading.specs.declared.load.LoadFault.TheVariants.{Reading, Typing}

abbrev pub after_reading : CheckError TableRule → LoadError
after_reading check.NoMemory = NoMemory
after_reading (check.Refused f) = Refused (Reading f)

abbrev pub after_typing : CheckError TypingRule → LoadError
after_typing check.NoMemory = NoMemory
after_typing (check.Refused f) = Refused (Typing f)
