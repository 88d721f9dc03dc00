-- A table and a frame for it.
use Rattle.std.specs.Prelude.{ℕ, List}
use Rattle.tables.specs.Contents.{rows_of}
use Rattle.tables.specs.Rows.{TableRows}
use Rattle.scanning.specs.declared.scan.Scan.{Scan}

-- what the table says
abbrev pub table_of : Scan → TableRows
table_of scan = rows_of scan.table.now

-- the bytes of the frame
abbrev pub frame_of : Scan → List ℕ
frame_of scan = scan.frame
