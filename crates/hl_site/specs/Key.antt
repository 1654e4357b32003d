-- The keys of a site file.
use Rattle.std.specs.Prelude.{codes, ℕ, List}
use Rattle.hl_site.specs.declared.key.Key.{Key}
use Rattle.hl_site.specs.declared.key.Key.TheVariants.{SegmentBlocks, LogSegments, Lines, Inodes, Volumes}

-- the key as it stands in the file
abbrev pub name_of : Key → List ℕ
name_of SegmentBlocks = codes "segment_blocks"
name_of LogSegments = codes "log_segments"
name_of Lines = codes "lines"
name_of Inodes = codes "inodes"
name_of Volumes = codes "volumes"
