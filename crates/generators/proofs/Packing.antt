-- The text of packed rows is that of the rows.
use Rattle.generators.proofs.Prelude.{◌≡◌, List, flat_map, take, sym, ap, ◌∙◌, flat_map-map, row_in, rows_in, row_text, PackedRow}
use Rattle.generators.proofs.Prelude.{PackedRows}

pub packed_text : (rows : PackedRows) (packed : List PackedRow) → packed ≡ take rows.len rows.list
    → flat_map (λ row. row_text (row_in row)) packed ≡ flat_map row_text (rows_in rows)
packed_text rows packed e = ap (flat_map (λ row. row_text (row_in row))) e ∙ sym (flat_map-map row_text row_in (take rows.len rows.list))
