-- Whether two values are the same, as tests.
use Rattle.std.specs.Prelude.{ℕ, Bool, true, false, ◌&&◌, ◌==◌, List, [], ◌∷◌, Option, Some, None, ℤ, pos, negsuc}
use Rattle.vm_model.specs.declared.areas.Span.{Span}
use Rattle.vm_model.specs.declared.areas.Area.{Area}
use Rattle.vm_model.specs.declared.areas.AreaKind.{AreaKind}
use Rattle.vm_model.specs.declared.areas.AreaKind.TheVariants as kind
use Rattle.vm_model.specs.declared.calls.Reply.{Reply}
use Rattle.vm_model.specs.declared.calls.Reply.TheVariants as reply
use Rattle.vm_model.specs.PlainMap.{Life, InHand, Lives, Ended, Part, Block, Object, Chunk}
use Rattle.vm_model.specs.Blocks.{PartAt}
use Rattle.vm_model.specs.Chunks.{ObjectAt}

abbrev pub same_list : {X : Type 0} → (X → X → Bool) → List X → List X → Bool
same_list same [] [] = true
same_list same [] (y ∷ ys) = false
same_list same (x ∷ xs) [] = false
same_list same (x ∷ xs) (y ∷ ys) = same x y && same_list same xs ys

abbrev pub same_option : {X : Type 0} → (X → X → Bool) → Option X → Option X → Bool
same_option same None None = true
same_option same None (Some y) = false
same_option same (Some x) None = false
same_option same (Some x) (Some y) = same x y

abbrev pub same_number : ℕ → ℕ → Bool
same_number m n = m == n

abbrev pub same_bool : Bool → Bool → Bool
same_bool true b = b
same_bool false true = false
same_bool false false = true

abbrev pub same_integer : ℤ → ℤ → Bool
same_integer (pos m) (pos n) = m == n
same_integer (pos m) (negsuc n) = false
same_integer (negsuc m) (pos n) = false
same_integer (negsuc m) (negsuc n) = m == n

abbrev pub same_span : Span → Span → Bool
same_span s t = (s.start == t.start) && (s.pages == t.pages)

abbrev pub same_kind : AreaKind → AreaKind → Bool
same_kind kind.Vmalloc kind.Vmalloc = true
same_kind kind.MapRam kind.MapRam = true
same_kind (kind.Block cpu) (kind.Block own) = cpu == own
same_kind (kind.Chunk chunk group) (kind.Chunk own other) = (chunk == own) && (group == other)
same_kind _ _ = false

abbrev pub same_area : Area → Area → Bool
same_area a b = same_span a.span b.span && same_kind a.kind b.kind && (a.caller == b.caller) && (a.serial == b.serial)

abbrev pub same_life : Life → Life → Bool
same_life (InHand caller) (InHand own) = caller == own
same_life (Lives serial) (Lives own) = serial == own
same_life Ended Ended = true
same_life _ _ = false

abbrev pub same_part : Part → Part → Bool
same_part p q = (p.offset == q.offset) && (p.pages == q.pages) && (p.caller == q.caller) && same_life p.life q.life

abbrev pub same_block : Block → Block → Bool
same_block b d = (b.start == d.start) && (b.cpu == d.cpu) && same_list same_part b.parts d.parts

abbrev pub same_object : Object → Object → Bool
same_object o p = (o.off == p.off) && (o.bytes == p.bytes) && (o.caller == p.caller) && same_life o.life p.life

abbrev pub same_chunk : Chunk → Chunk → Bool
same_chunk h i = (h.number == i.number) && (h.base == i.base) && same_list same_bool h.populated i.populated && same_list same_object h.objects i.objects

abbrev pub same_part_at : PartAt → PartAt → Bool
same_part_at a b = (a.cpu == b.cpu) && (a.block == b.block) && (a.offset == b.offset) && (a.pages == b.pages)

abbrev pub same_object_at : ObjectAt → ObjectAt → Bool
same_object_at a b = (a.chunk == b.chunk) && (a.base == b.base) && (a.off == b.off) && (a.bytes == b.bytes)

-- an object with its missing pages, and a chunk with a page
abbrev pub same_placed : ObjectAt × List ℕ → ObjectAt × List ℕ → Bool
same_placed p q = same_object_at p.0 q.0 && same_list same_number p.1 q.1

abbrev pub same_reply : Reply → Reply → Bool
same_reply (reply.Address a) (reply.Address b) = a == b
same_reply (reply.Sum a) (reply.Sum b) = same_integer a b
same_reply (reply.Count a) (reply.Count b) = a == b
same_reply reply.Done reply.Done = true
same_reply reply.NoSpace reply.NoSpace = true
same_reply reply.NoFrames reply.NoFrames = true
same_reply reply.NoAtomic reply.NoAtomic = true
same_reply reply.NotLive reply.NotLive = true
same_reply reply.BadSize reply.BadSize = true
same_reply reply.BadAlign reply.BadAlign = true
same_reply reply.Unbound reply.Unbound = true
same_reply _ _ = false
