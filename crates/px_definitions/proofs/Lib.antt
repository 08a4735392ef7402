mod ColumnTurns
