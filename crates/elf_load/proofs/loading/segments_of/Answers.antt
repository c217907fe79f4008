use Rattle.std.proofs.Common.{length, sym, ◌∙◌, arith}
use Rattle.elf_load.proofs.Places.{is_within-loaded, segments_none, segments_more, segments_same}
use Rattle.elf_load.proofs.loading.segments_of.Goals as goal
use Rattle.elf_load.proofs.loading.segments_of.Goals.{then-loads_bytes+in_ok-segment+in_ok-push, else-loads_bytes}

pub loop-header-init : goal.loop-header-init
loop-header-init c = rw (segments_none c.args.bytes.now) c.new-segments.ensures.items

pub segment_of-requires : goal.segment_of-requires
segment_of-requires c =
    is_within-loaded (length c.args.bytes.now) c.args.headers.now c.loop-header.header-index _ c.requires (omega arith)
    (sym c.loads_bytes.ensures ∙ c.if-loads_bytes.true)

pub loop-header-preserved : goal.loop-header-preserved
loop-header-preserved c =
    let bytes = c.args.bytes.now in
    let headers = c.args.headers.now in
    let index = c.loop-header.header-index in
    elim c.if-loads_bytes.branch [
      | then-loads_bytes+in_ok-segment+in_ok-push w ↦
          let more = segments_more bytes headers index _ (omega arith) (sym c.loads_bytes.ensures ∙ w.if-loads_bytes.true) in
          let segment = w.in_ok-segment.ensures in
          let pushed = w.in_ok-push.ensures.items in
          rw w.segments-is (pushed ∙ (cc))
      | else-loads_bytes w ↦
          let same = segments_same bytes headers index _ (omega arith) (sym c.loads_bytes.ensures ∙ w.if-loads_bytes.false) in
          rw w.segments-is (c.loop-header.invariant ∙ sym same)
    ]
