-- A part of memory before it is laid out.
use Rattle.std.specs.Prelude.{List, length, map, ◌++◌, replicate}
use Rattle.elf_load.specs.declared.segment.Segment.{Segment}
use Rattle.rv_image.specs.declared.part.Part.{Part}
use Rattle.rv_image.specs.declared.span.Span.{Span}

-- the segment that a part stands for: its bytes, and then its zeros
unfoldable pub part_segment : Part → Segment
part_segment part = record {
  address = part.address;
  bytes = part.loaded.now ++ replicate part.zeros 0;
  read = part.read;
  write = part.write;
  exec = part.exec;
}

-- the segments that parts stand for
abbrev pub part_segments : List Part → List Segment
part_segments parts = map part_segment parts

-- the span that a segment takes
unfoldable pub segment_span : Segment → Span
segment_span segment = record {
  address = segment.address;
  length = length segment.bytes;
  read = segment.read;
  write = segment.write;
  exec = segment.exec;
}

-- the spans that parts take
abbrev pub part_spans : List Part → List Span
part_spans parts = map segment_span (map part_segment parts)
