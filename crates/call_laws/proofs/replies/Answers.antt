use Rattle.call_laws.proofs.LegalEvents.{each_event_legal}
use Rattle.call_laws.proofs.Replying.{replies_have_causes, causes_bring_replies}
use Rattle.call_laws.proofs.Numbering.{reports_tell}
use Rattle.call_laws.proofs.replies.Goals as goal

pub returns : goal.returns
returns c = record { legal = each_event_legal; causes = replies_have_causes; exactly = causes_bring_replies; numbers = reports_tell }
