-- `window_kinds::cursor::cursor_fits` meets its contract: the larger numbers are what the calls promise. Assumes nothing.
use Rattle.window_kinds.specs.Kinds.{fits_by}
use Rattle.window_kinds.proofs.cursor.cursor_fits.Goals as goal

pub returns : goal.returns
unfolding fits_by
returns c = rw (c.larger-top.ensures, c.larger-widest.ensures)
