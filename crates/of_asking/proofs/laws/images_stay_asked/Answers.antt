use Rattle.of_asking.proofs.ImagesLemmas.{images_stay_asked}
use Rattle.of_asking.proofs.laws.images_stay_asked.Goals as goal

pub returns : goal.returns
returns c =
    let sound = c.changes_stay_sound.ensures in
    let images = c.images_change_by_images_alone.ensures in
    let properties = c.properties_change_by_puts_alone.ensures in
    images_stay_asked (record { sound = sound; images = images; properties = properties })
