use Rattle.machine_rows.proofs.places.store_of.Goals as goal

pub returns : goal.returns
returns c = λ serial at job.
    c.new_volumes_keep_nothing.ensures (record { alloc = c.args.alloc; catalog = c.new.result; volumes = c.mount-3.new.volumes }) c.in_ok-mount-3.ensures serial at
