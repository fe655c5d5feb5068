mod Passing
mod Refusing
mod Inner
