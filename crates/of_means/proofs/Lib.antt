-- Steps: runs of steps, and where they rest. Runs: where branches lead, and the step of the token at which the source
-- stands. Level, Control: what words of control leave of the return stack, and their tokens. Aims: what a part leaves
-- of the branches that are open. Following: what comes together where the machine follows a course. Turning, Bare: the
-- step of each word of control. Nests: the image follows the nest. Spine: the image
-- follows the nest where offsets are made wider, too. Stops: the end of the image. Main: the law `source_is_followed`.
-- Keeping, Leading: what is kept in each step, and the return stack at the source. Quiet, Started, Words: what a word
-- started comes back.
-- Alone, Listing, Inner: the tokens of a definition as a list. Compiling, Standing, Elements, Compiled: each is
-- compiled. Opening, Defined: from `b(:)` to `b(;)`.
-- Straight: the words of an accepted source. Whole: the laws `words_are_followed` and `sources_behave`. Outputs: the
-- law `sources_print_alike`.
pub mod Steps
pub mod Runs
pub mod Level
pub mod Aims
pub mod Control
pub mod Following
pub mod Turning
pub mod Bare
pub mod Nests
pub mod Spine
pub mod Stops
pub mod Main
pub mod Keeping
pub mod Leading
pub mod Quiet
pub mod Started
pub mod Words
pub mod Alone
pub mod Listing
pub mod Inner
pub mod Compiling
pub mod Standing
pub mod Elements
pub mod Compiled
pub mod Opening
pub mod Defined
pub mod Straight
pub mod Whole
pub mod Outputs
