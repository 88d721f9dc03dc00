-- What a table of the code says.
use Rattle.bounded.specs.Held.{held}
use Rattle.tables.specs.declared.table.Table.{Table}
use Rattle.tables.specs.Rows.{TableRows, table_rows}

-- its statements and plans as plain lists
abbrev pub rows_of : Table → TableRows
rows_of t = table_rows (held t.statements) (held t.plans)
