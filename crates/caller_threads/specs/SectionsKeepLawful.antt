-- A section over an allocator's region keeps a state lawful.
use Rattle.map_parts.specs.SectionRuns.{KeepsLawful}
use Rattle.section_laws.proofs.KeptLawful.{sections_keep_lawful}
use Rattle.caller_threads.specs.Core.{core}

pub sections_keep : KeepsLawful core.wanted core.moves core.after core.lawful
sections_keep = sections_keep_lawful
