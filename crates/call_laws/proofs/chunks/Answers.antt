use Rattle.call_laws.proofs.OneBase.{chunks_have_one_base, outer_units_unmapped}
use Rattle.call_laws.proofs.chunks.Goals as goal

pub returns : goal.returns
returns c = record { one_base = chunks_have_one_base; outer_units = outer_units_unmapped }
