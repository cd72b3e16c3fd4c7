use Rattle.cop_sdo.proofs.Giving.{written_so, refused_so}
use Rattle.cop_sdo.proofs.laws.short_downloads_are_served.Goals as goal

pub returns-clause-written : goal.returns-clause-written
returns-clause-written c node dict new frame at bytes next h hears gives width e = written_so node dict frame at bytes next h hears gives width new e

pub returns-clause-refused : goal.returns-clause-refused
returns-clause-refused c node dict frame at bytes abort next h hears gives width e = refused_so node dict frame at bytes next h hears gives width abort e
