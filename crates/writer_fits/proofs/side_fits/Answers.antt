-- `writer_fits::side_fits` meets its contract. Assumes nothing.
use Rattle.std.proofs.Common.{arith}
use Rattle.std.proofs.lemmas.Grind.{common_steps}
use Rattle.writer_fits.proofs.FieldsFit.{parts_fit}
use Rattle.writer_fits.proofs.side_fits.Goals as goal

pub returns-then-last-last_pair : goal.returns-then-last-last_pair
returns-then-last-last_pair c = rw (parts_fit c.args.r c.args.v) (grind (arith, common_steps))

pub returns-else-last-last_pair : goal.returns-else-last-last_pair
returns-else-last-last_pair c = rw (parts_fit c.args.r c.args.v) (grind (arith, common_steps))
