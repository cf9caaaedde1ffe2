use Rattle.file_trips.proofs.write_kind.Goals as goal

pub returns-in-Full : goal.returns-in-Full
returns-in-Full c = let told = c.in-Full.is in
    let made = c.write_table.ensures in
    rw told (record { number_is = made.number_value; count_is = made.count_value; buffer_is = made.buffer_after })

pub returns-in-Sparse : goal.returns-in-Sparse
returns-in-Sparse c = let told = c.in-Sparse.is in
    let made = c.write_sparse.ensures in
    rw told (record { number_is = made.number_value; count_is = made.count_value; buffer_is = made.buffer_after })
