-- `assignment_path::entry::discover` meets its contract, with a memory of nothing or none. Assumes nothing.
use Rattle.assignment_tables.specs.Tables.{the_board}
use Rattle.path_memory.proofs.MemoryLaws.{empty_remembers, nothing_remembers}
use Rattle.assignment_path.proofs.entry.discover.Goals as goal

pub discover_with-requires : goal.discover_with-requires
discover_with-requires c = record { searchable = c.requires.searchable; roomy = c.requires.roomy; depth_bound = c.requires.depth_bound; recalls = empty_remembers (the_board c.args.tables.now) _ _ }

pub discover_with-requires-2 : goal.discover_with-requires-2
discover_with-requires-2 c = record { searchable = c.requires.searchable; roomy = c.requires.roomy; depth_bound = c.requires.depth_bound; recalls = nothing_remembers (the_board c.args.tables.now) _ _ _ c.fresh_memory-memo.ensures }
