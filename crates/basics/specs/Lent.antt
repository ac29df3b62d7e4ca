-- What a definition says of a thing that is lent: `was x` stands behind a `&` at entry, `had x` behind a `&mut` at entry, and `became x` behind it at exit.
use Rattle.std.specs.Borrow.{Bor, MutBor}
use denote.Triple.Both.{Both}

abbrev pub was : {X Y : Type 0} → Both (Bor X) Y → X
was x = x.entry.now

abbrev pub had : {X Y : Type 0} → Both (MutBor X) Y → X
had x = x.entry.now

abbrev pub became : {X Y : Type 0} → Both Y (MutBor X) → X
became x = x.exit.now
