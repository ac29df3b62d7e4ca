-- No second result meets a contract of this crate. Assumes nothing.
use Rattle.basics.specs.Promises.{FixesAnswer}
use Rattle.basics.proofs.Promises.{alike}
use Rattle.window_kinds.proofs.cursor

pub new_cursor : FixesAnswer cursor.new_cursor.Reads.Post
new_cursor κs a r s e f = alike

pub new_ejection-cursor : FixesAnswer cursor.new_ejection_cursor.Reads.Post
new_ejection-cursor κs a r s e f = alike

pub cursor-fits : FixesAnswer cursor.cursor_fits.Reads.Post
cursor-fits κs a r s e f = alike

pub has_window : FixesAnswer cursor.has_window.Reads.Post
has_window κs a r s e f = alike

pub shift_of : FixesAnswer cursor.shift_of.Reads.Post
shift_of κs a r s e f = alike

pub advance : FixesAnswer cursor.advance.Reads.Post
advance κs a r s e f = alike

pub refuse : FixesAnswer cursor.refuse.Reads.Post
refuse κs a r s e f = alike
