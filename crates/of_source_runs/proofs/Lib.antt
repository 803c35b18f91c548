-- Steps: the turns of a run are steps.
pub mod Steps
